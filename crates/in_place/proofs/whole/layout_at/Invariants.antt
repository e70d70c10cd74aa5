-- `in_place::whole::layout_at` meets its contract: what all stores give is what the stores from i on give to the
-- components as they are.
use Rattle.std.proofs.Common.{◌≡◌, drop}
use Rattle.std.proofs.lemmas.List.Edits.{sets}
use Rattle.layout.specs.Records.{pack_components}
use Rattle.in_place.specs.Places.{components_at}
use Rattle.in_place.proofs.whole.layout_at.Given as goal

abbrev pub invariant-loop-i : goal.invariant-loop-i
invariant-loop-i l = pack_components (components_at l.s l.places)
    ≡ sets l.out.components l.i (components_at l.s (drop l.i l.places))
