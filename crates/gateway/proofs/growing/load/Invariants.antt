-- `gateway::growing::load`: the records put so far, and those of the words from there on, are all of them.
use Rattle.std.proofs.Common.{◌≡◌, ◌++◌, ◌-◌, ◌*◌, drop, take}
use Rattle.gateway.specs.LentWords.{first_held}
use Rattle.gateway.proofs.growing.load.Given as goal

abbrev pub invariant-loop-i : goal.invariant-loop-i
invariant-loop-i l = take l.i l.record-items ++ first_held (65 - l.i) (drop (3 * l.i) l.words) ≡ first_held 65 l.words
