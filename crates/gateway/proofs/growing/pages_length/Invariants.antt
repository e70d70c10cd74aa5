-- `gateway::growing::pages_length`: all bytes are those so far and those from page k on.
use Rattle.std.proofs.Common.{◌≡◌, ◌≤◌, ◌+◌, ◌*◌, length}
use Rattle.gateway.specs.HostGrowth.{pages_of}
use Rattle.gateway.specs.LentWords.{pages_from}
use Rattle.gateway.proofs.growing.pages_length.Given as goal

abbrev pub invariant-loop-k : goal.invariant-loop-k
invariant-loop-k l = (l.bytes ≤ 512 * l.k) × (length (pages_of l.l) ≡ l.bytes + length (pages_from l.l l.k))
