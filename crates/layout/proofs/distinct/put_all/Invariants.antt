-- `layout::distinct::put_all` meets its contract: what all stores give is what the stores of the components from i on
-- give to the row as it is.
use Rattle.std.proofs.Common.{◌≡◌, ◌≤◌, ◌+◌, ◌*◌, length, drop}
use Rattle.std.proofs.lemmas.List.Edits.{sets}
use Rattle.layout.specs.Records.{records_in}
use Rattle.layout.proofs.distinct.put_all.Given as goal

abbrev pub invariant-loop-i : goal.invariant-loop-i
invariant-loop-i g l =
    let cs = g.C.Components.list l.components in
    (length l.objects ≡ length l.initial.objects)
    × (length (records_in cs) ≡ l.p + length (records_in (drop l.i cs)))
    × (sets l.initial.objects 0 (records_in cs) ≡ sets l.objects l.p (records_in (drop l.i cs)))
    × (l.p ≤ 16 * l.i)
