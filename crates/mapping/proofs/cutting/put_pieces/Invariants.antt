-- `mapping::cutting::put_pieces`: what is written by now.
use Rattle.mapping.proofs.CutSteps.{Put}
use Rattle.mapping.proofs.cutting.put_pieces.Given as goal

abbrev pub invariant-loop-i : goal.invariant-loop-i
invariant-loop-i g l = let xs = g.S.Spans.spans l.spans in
    Put l.request.offset l.request.stop xs l.fn.room l.i l.at l.room
