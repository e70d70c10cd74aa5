-- `mapping::cutting::put_pieces` meets its contract: the pieces of one component are written after those of the one
-- before.
use Rattle.std.proofs.Common.{arith}
use Rattle.mapping.proofs.CutSteps.{put_none, put_cuttable, room_left, put_next, put_all}
use Rattle.mapping.proofs.cutting.put_pieces.Goals as goal

pub loop-i-init : goal.loop-i-init
loop-i-init g c = put_none (g.S.Spans.spans c.args.spans.now) (g.met.S.Spans.cuttable c.args.spans.now).1

pub put_part-at-requires : goal.put_part-at-requires
put_part-at-requires g c =
    let xs = g.S.Spans.spans c.args.spans.now in (
      put_cuttable xs c.loop-i.invariant (omega arith) c.span.ensures,
      room_left xs c.loop-i.invariant (omega arith) c.span.ensures c.requires,
    )

pub loop-i-preserved : goal.loop-i-preserved
loop-i-preserved g c =
    let xs = g.S.Spans.spans c.args.spans.now in
    put_next xs c.loop-i.invariant (omega arith) c.span.ensures c.put_part-at.ensures.1 c.put_part-at.auto.room
    c.put_part-at.ensures.0

pub returns : goal.returns
returns g c = put_all (g.S.Spans.spans c.args.spans.now) c.loop-i.invariant (omega arith)
