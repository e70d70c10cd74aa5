-- `mapping::cutting::cut_by` meets its contract: if nothing refuses the request, its pieces have room.
use borrow.Author.Rules.{rules}
use Rattle.std.proofs.Common.{◌≡◌, ◌∙◌, Err, length, arith}
use Rattle.refusals.specs.Refusals.{number_of}
use Rattle.mapping.specs.Cutting.{cut_says}
use Rattle.mapping.specs.CuttingLaws.{cut_refused, cut_accepted}
use Rattle.mapping.specs.Acceptance.{accepted_facts}
use Rattle.mapping.proofs.cutting.cut_by.Goals as goal

pub returns-in_err-pieces : goal.returns-in_err-pieces
unfolding cut_says
returns-in_err-pieces g c =
    let xs = g.S.Spans.spans c.args.spans.now in
    let r : c.from_residual.result ≡ Err c.in_err-pieces.field-0.0 = search rules in
    let number = number_of c.in_err-pieces.field-0.0 in
    rw r (
      c.in_err-pieces.ensures,
      cut_refused c.args.end c.args.offset c.args.bytes xs c.args.room.now
          number c.in_err-pieces.ensures,
    )

-- Past the count, the request is accepted.
pub overflow_add-stop : goal.overflow_add-stop
unfolding cut_says
overflow_add-stop g c =
    let xs = g.S.Spans.spans c.args.spans.now in
    let done = cut_accepted c.args.end c.args.offset c.args.bytes xs c.args.room.now c.in_ok-pieces.pieces
    c.in_ok-pieces.ensures in
    let k = accepted_facts c.args.end c.args.offset c.args.bytes (length c.args.room.now) xs done.0 in
    omega (arith, k.below)

pub put_pieces-requires : goal.put_pieces-requires
unfolding cut_says
put_pieces-requires g c =
    let xs = g.S.Spans.spans c.args.spans.now in
    let done = cut_accepted c.args.end c.args.offset c.args.bytes xs c.args.room.now c.in_ok-pieces.pieces
    c.in_ok-pieces.ensures in
    let k = accepted_facts c.args.end c.args.offset c.args.bytes (length c.args.room.now) xs done.0 in
    (omega (arith, k.room))

pub returns : goal.returns
unfolding cut_says
returns g c =
    let xs = g.S.Spans.spans c.args.spans.now in
    let done = cut_accepted c.args.end c.args.offset c.args.bytes xs c.args.room.now c.in_ok-pieces.pieces
    c.in_ok-pieces.ensures in
    (c.in_ok-pieces.ensures, c.put_pieces.ensures ∙ done.1)
