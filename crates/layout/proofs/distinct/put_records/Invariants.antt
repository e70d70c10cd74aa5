-- `layout::distinct::put_records` meets its contract: what all stores give is what the stores from j on give to the row
-- as it is.
use Rattle.std.proofs.Common.{◌≡◌, ◌+◌, length, drop, get_or}
use Rattle.std.proofs.lemmas.List.Edits.{sets}
use Rattle.layout.specs.Records.{no_component, records_of}
use Rattle.layout.proofs.distinct.put_records.Given as goal

abbrev pub invariant-loop-j : goal.invariant-loop-j
invariant-loop-j g l =
    let os = records_of (get_or (g.C.Components.list l.components) l.i no_component) in
    (length l.objects ≡ length l.initial.objects)
    × (sets l.initial.objects l.at os ≡ sets l.objects (l.at + l.j) (drop l.j os))
