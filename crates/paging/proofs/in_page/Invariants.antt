-- `paging::in_page` meets its contract: into the page goes what went in up to i, and what fits the room left from i on.
use Prim.Native.Nat.{◌+◌}
use mathlib.Core.Path.{◌≡◌}
use lib.ListN.{drop}
use Rattle.paging.specs.Paging.{fitting, in_page, sizes_of}
use Rattle.paging.proofs.in_page.Given as goal

abbrev pub invariant-loop-i : goal.invariant-loop-i
invariant-loop-i l = in_page (sizes_of l.components) ≡ l.i + fitting l.room (sizes_of (drop l.i l.components))
