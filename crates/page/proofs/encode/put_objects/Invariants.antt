-- `page::encode::put_objects` meets its contract: all stores give what those from object i on give to the buffer as it
-- is.
use Prim.Native.Nat.{◌+◌, ◌*◌}
use mathlib.Core.Path.{◌≡◌}
use lib.ListN.{drop}
use lib.Seq.{sets}
use Rattle.page.specs.Bytes.{objects_bytes}
use Rattle.page.proofs.encode.put_objects.Given as goal

abbrev pub invariant-loop-i : goal.invariant-loop-i
invariant-loop-i l =
    sets l.fn.buffer l.at (objects_bytes l.objects) ≡ sets l.buffer (l.at + 16 * l.i)
    (objects_bytes (drop l.i l.objects))
