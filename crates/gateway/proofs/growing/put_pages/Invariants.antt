-- `gateway::growing::put_pages`: all stores give what those from page k on give to the buffer.
use Rattle.std.proofs.Common.{◌≡◌, ◌≤◌, ◌+◌, length}
use Rattle.std.proofs.lemmas.List.Edits.{sets}
use Rattle.gateway.specs.HostGrowth.{pages_of}
use Rattle.gateway.specs.LentWords.{pages_from}
use Rattle.gateway.proofs.growing.put_pages.Given as goal

abbrev pub invariant-loop-k : goal.invariant-loop-k
invariant-loop-k l =
    (length l.buffer ≡ length l.initial.buffer)
    × (l.p + length (pages_from l.l l.k) ≤ length l.initial.buffer)
    × (sets l.initial.buffer 0 (pages_of l.l) ≡ sets l.buffer l.p (pages_from l.l l.k))
