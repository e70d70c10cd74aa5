-- `layout::outline_of` meets its contract: what all stores give is what the stores from i on give to the arrays as they
-- are.
use Rattle.std.proofs.Common.{◌≡◌, drop}
use Rattle.std.proofs.lemmas.List.Edits.{sets}
use Rattle.layout.specs.Records.{neighbours_of, ids_of}
use Rattle.layout.proofs.outline_of.Given as goal

abbrev pub invariant-loop-i : goal.invariant-loop-i
invariant-loop-i l =
    (sets l.initial.neighbours 0 (neighbours_of l.components)
    ≡ sets l.neighbours l.i (neighbours_of (drop l.i l.components)))
    × (sets l.initial.ids 0 (ids_of l.components) ≡ sets l.ids l.i (ids_of (drop l.i l.components)))
