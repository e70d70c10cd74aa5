-- The rules of the fields, asked of the component at a place: its object records are those that are after it.
use Prim.Native.Nat.{ℕ, ◌+◌, min}
use mathlib.Core.Path.{◌≡◌}
use mathlib.Core.List.{List}
use mathlib.Core.Bool.{not, ◌&&◌}
use lib.Dec.{leb, eqb}
use Rattle.lists.specs.Tests.{every, each}
use Rattle.layout.specs.Records.{record_count}
use Rattle.layout.specs.Fields.{kind_ok, first_target_ok, target_ok, fields_ok}
use Rattle.page.specs.Form.{records_at}
use Rattle.page.specs.Content.{objects_at, component_at}
use Rattle.in_place.specs.RecordLaws.{length_objects_at, component_records}

pub fields_at : (s : List ℕ) (at : ℕ) →
    (let c = component_at s at in
    let n = min 16 (records_at s at) in
    let os = objects_at n s (at + 40) in
    fields_ok c
    ≡ (leb 1 c.id
    && leb c.begin c.end
    && not (c.init && c.extension)
    && kind_ok c.extension c.init c.begin c.end c.stripe_count c.stripe_size c.extension_size
    && first_target_ok c.init c.first_target os
    && every (each target_ok os)
    && eqb n (record_count c)))
unfolding fields_ok
fields_at s at = rw (component_records s at, length_objects_at (min 16 (records_at s at)) s (at + 40))
