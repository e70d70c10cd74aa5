-- `page::decode::objects_at` meets its contract: all stores give what those that are left give to the array.
use Prim.Native.Nat.{◌+◌, ◌*◌, ◌-◌}
use mathlib.Core.Path.{◌≡◌}
use lib.ListN.{replicate}
use lib.Seq.{sets}
use Rattle.layout.specs.Records.{no_object}
use Rattle.page.specs.Content.{objects_at}
use Rattle.page.proofs.decode.objects_at.Given as goal

abbrev pub invariant-loop-i : goal.invariant-loop-i
invariant-loop-i l =
    sets (replicate 16 no_object) 0 (objects_at l.n l.s l.at)
    ≡ sets l.objects l.i (objects_at (l.n - l.i) l.s (l.at + 16 * l.i))
