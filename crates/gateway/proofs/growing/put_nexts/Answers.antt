-- `gateway::growing::put_nexts`: one next number more is stored.
use Rattle.std.proofs.Common.{arith}
use Rattle.gateway.specs.WordLaws.{words_next}
use Rattle.gateway.proofs.growing.put_nexts.Goals as goal

pub loop-i-preserved : goal.loop-i-preserved
loop-i-preserved c =
    rw c.loop-i.invariant (words_next c.args.words.now c.args.records.now c.loop-i.i (omega arith) (omega arith))
