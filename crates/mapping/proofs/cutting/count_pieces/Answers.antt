-- `mapping::cutting::count_pieces` meets its contract: the tests of 9, 10, 11 and 12 are asked in their order.
use borrow.Author.Rules.{rules}
use Rattle.std.proofs.Common.{◌≡◌, ◌∙◌, ◌+◌, ◌-◌, ◌^◌, ◌≤◌, Err, sym, arith, true, false}
use Rattle.refusals.specs.declared.Refusal.TheVariants.{RequestEnd}
use Rattle.refusals.specs.Refusals.{number_of}
use Rattle.mapping.specs.Cutting.{cut_says}
use Rattle.mapping.specs.CuttingLaws.{refused_9, past_end, within_end, refused_10, refused_12}
use Rattle.mapping.specs.CuttingLaws.{asked_refused, asked_given}
use Rattle.mapping.proofs.cutting.count_pieces.Goals as goal

pub returns-in_err-stop : goal.returns-in_err-stop
unfolding cut_says
returns-in_err-stop g c =
    let xs = g.S.Spans.spans c.args.spans.now in
    let r : c.from_residual.result ≡ Err RequestEnd = search rules in
    let s = rw c.in_err-stop.ensures.ok_part at c.checked_add.ensures in
    rw (r, ← refused_9 c.args.end c.args.offset c.args.bytes c.args.numbers xs (omega arith))

pub returns-then-end-stop : goal.returns-then-end-stop
unfolding cut_says
returns-then-end-stop g c =
    let xs = g.S.Spans.spans c.args.spans.now in
    let s = rw c.in_ok-stop.ensures.ok_part at c.checked_add.ensures in
    let below : c.args.offset + c.args.bytes ≤ 2 ^ 64 - 1 = omega (arith, s.0) in
    let past = past_end c.args.end c.args.offset c.args.bytes c.args.numbers xs below (omega arith)
    (omega (arith, s.1)) in
    rw (← refused_10 c.args.end c.args.offset c.args.bytes c.args.numbers xs below past)

pub returns-in_err-pieces : goal.returns-in_err-pieces
unfolding cut_says
returns-in_err-pieces g c =
    let xs = g.S.Spans.spans c.args.spans.now in
    let s = rw c.in_ok-stop.ensures.ok_part at c.checked_add.ensures in
    let below : c.args.offset + c.args.bytes ≤ 2 ^ 64 - 1 = omega (arith, s.0) in
    let within = within_end c.args.end c.args.offset c.args.bytes c.args.numbers xs below (λ h. omega (arith, s.1)) in
    let r : c.from_residual-in_err-pieces.result ≡ Err c.in_err-pieces.field-0.0 = search rules in
    rw r (asked_refused c.args.end c.args.offset c.args.bytes c.args.numbers xs below within
    (number_of c.in_err-pieces.field-0.0)
    (rw s.1 at c.in_err-pieces.ensures))

pub returns-then-too_many : goal.returns-then-too_many
unfolding cut_says
returns-then-too_many g c =
    let xs = g.S.Spans.spans c.args.spans.now in
    let s = rw c.in_ok-stop.ensures.ok_part at c.checked_add.ensures in
    let below : c.args.offset + c.args.bytes ≤ 2 ^ 64 - 1 = omega (arith, s.0) in
    let within = within_end c.args.end c.args.offset c.args.bytes c.args.numbers xs below (λ h. omega (arith, s.1)) in
    let k = asked_given c.args.end c.args.offset c.args.bytes c.args.numbers xs below within c.in_ok-pieces.pieces
    (rw s.1 at c.in_ok-pieces.ensures) in
    rw (← refused_12 c.args.end c.args.offset c.args.bytes c.args.numbers xs below within k.0 c.in_ok-pieces.pieces
    k.1 true
    (sym c.too_many.ensures ∙ c.if-too_many.true))

pub returns : goal.returns
unfolding cut_says
returns g c =
    let xs = g.S.Spans.spans c.args.spans.now in
    let s = rw c.in_ok-stop.ensures.ok_part at c.checked_add.ensures in
    let below : c.args.offset + c.args.bytes ≤ 2 ^ 64 - 1 = omega (arith, s.0) in
    let within = within_end c.args.end c.args.offset c.args.bytes c.args.numbers xs below (λ h. omega (arith, s.1)) in
    let k = asked_given c.args.end c.args.offset c.args.bytes c.args.numbers xs below within c.in_ok-pieces.pieces
    (rw s.1 at c.in_ok-pieces.ensures) in
    rw (
      ← refused_12 c.args.end c.args.offset c.args.bytes c.args.numbers xs below within k.0 c.in_ok-pieces.pieces
          k.1 false
          (sym c.too_many.ensures ∙ c.if-too_many.false),
      k.1,
    )
