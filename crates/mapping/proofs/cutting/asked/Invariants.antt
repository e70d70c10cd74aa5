-- `mapping::cutting::asked`: what is counted by now.
use Rattle.mapping.proofs.CutSteps.{Counted}
use Rattle.mapping.proofs.cutting.asked.Given as goal

abbrev pub invariant-loop-i : goal.invariant-loop-i
invariant-loop-i g l = let xs = g.S.Spans.spans l.spans in
    Counted l.request.offset l.request.stop xs l.i l.pieces
