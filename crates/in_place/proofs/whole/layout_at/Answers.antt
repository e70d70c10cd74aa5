-- `in_place::whole::layout_at` meets its contract: what all stores give is what the stores from i on give to the
-- components as they are.
use Rattle.std.specs.Prelude.{◌≡◌, length, true}
use Rattle.std.proofs.Common.{sym, ◌∙◌, add-one}
use Rattle.layout.specs.Records.{pack_components}
use Rattle.in_place.specs.Places.{components_at}
use Rattle.in_place.specs.SliceLaws.{components_next, components_done, components_length}
use Rattle.in_place.proofs.whole.layout_at.Goals as goal

pub loop-i-init : goal.loop-i-init
unfolding pack_components
loop-i-init c = rw c.no_layout-out.ensures

pub component_at-requires : goal.component_at-requires
component_at-requires c = c.requires.1 c.loop-i.i c.loop-i-test.true

pub loop-i-preserved : goal.loop-i-preserved
loop-i-preserved c =
    let e = components_next c.args.s.now c.args.places.now c.loop-i.i c.loop-i-test.true in
    c.loop-i.invariant ∙ rw (e, ← c.component_at.ensures, add-one)

pub returns : goal.returns
returns c =
    let cs = components_at c.args.s.now c.args.places.now in
    let e = components_done c.args.s.now c.args.places.now c.loop-i.i c.loop-i-test.false in
    let n : length c.args.places.now ≡ length cs = sym (components_length c.args.s.now c.args.places.now) in
    let x : c.loop-i.out.components ≡ pack_components cs = sym (c.loop-i.invariant ∙ rw e) in
    λ i. record { generation = c.args.generation; count = n i; components = x i; complete = true }
