-- `paging::put_components` meets its contract: all stores give what those that are left give to the buffer.
use Prim.Native.Nat.{◌+◌, ◌≤◌}
use mathlib.Core.Path.{◌≡◌}
use lib.ListN.{length, drop}
use lib.Seq.{sets}
use Rattle.page.specs.Bytes.{components_bytes}
use Rattle.paging.proofs.put_components.Given as goal

abbrev pub invariant-loop-c : goal.invariant-loop-c
invariant-loop-c l = record {
  room : l.at + length (components_bytes (drop l.c-index l.components)) ≤ length l.buffer;
  stored : sets l.fn.buffer 16 (components_bytes l.components)
      ≡ sets l.buffer l.at (components_bytes (drop l.c-index l.components));
}
