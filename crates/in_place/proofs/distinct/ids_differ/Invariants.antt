-- `in_place::distinct::ids_differ` meets its contract: what all stores give is what the stores from i on give to the
-- ids.
use Rattle.std.proofs.Common.{◌≡◌, drop, replicate}
use Rattle.std.proofs.lemmas.List.Edits.{sets}
use Rattle.layout.specs.Records.{ids_of}
use Rattle.in_place.specs.Places.{components_at}
use Rattle.in_place.proofs.distinct.ids_differ.Given as goal

abbrev pub invariant-loop-i : goal.invariant-loop-i
invariant-loop-i l = sets (replicate 16 0) 0 (ids_of (components_at l.s l.places))
    ≡ sets l.ids l.i (ids_of (components_at l.s (drop l.i l.places)))
