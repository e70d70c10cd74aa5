-- `gateway::growing::put_nexts`: the words have the next numbers of the first i records.
use Rattle.std.proofs.Common.{◌≡◌, take}
use Rattle.gateway.specs.HostGrowth.{with_next_words}
use Rattle.gateway.proofs.growing.put_nexts.Given as goal

abbrev pub invariant-loop-i : goal.invariant-loop-i
invariant-loop-i l = l.words ≡ with_next_words l.initial.words (take l.i l.records)
