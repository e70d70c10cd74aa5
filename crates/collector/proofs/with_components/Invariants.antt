-- `collector::with_components` meets its contract: what all stores give is what the stores that are left give to the
-- array.
use Prim.Native.Nat.{◌+◌}
use mathlib.Core.Path.{◌≡◌}
use mathlib.Core.List.{map}
use lib.ListN.{drop}
use lib.Seq.{sets}
use Rattle.page.specs.Content.{component_at}
use Rattle.collector.proofs.with_components.Given as goal

abbrev pub invariant-loop-i : goal.invariant-loop-i
invariant-loop-i l =
    sets l.fn.l.components l.l.count (map (component_at l.s) l.places)
    ≡ sets l.components (l.l.count + l.i) (map (component_at l.s) (drop l.i l.places))
