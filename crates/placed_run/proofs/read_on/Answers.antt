-- `placed_run::read_on` meets its contract: the whole reading is the reading from here on.
use Rattle.std.specs.Prelude.{ℕ, ◌<◌, ◌≡◌, List, Err, true, false}
use Rattle.std.proofs.Common.{sym, ap, subst, ◌∙◌, arith, ne_eqb}
use Rattle.std.proofs.Math.Bool.{and-false}
use borrow.Author.Rules.{rules}
use Rattle.refusals.specs.Refusals.{number_of, number_pos}
use Rattle.placed_run.specs.declared.Progress.{Progress}
use Rattle.placed_run.specs.Placing.{Placed, goes_on}
use Rattle.placed_run.specs.Progress.{placed_of}
use Rattle.placed_run.proofs.TurnLaws.{placed_from, turns_left, turn_start, turn_end, turn_next, turn_less}
use Rattle.placed_run.proofs.read_on.Goals as goal

-- A page is wanted if more are, and none once one was refused.
wanted : (p : Progress) (places : List ℕ) → p.more ≡ true → goes_on (placed_of 0 p places) ≡ true
wanted p places e = rw e

unwanted : (p : Progress) (places : List ℕ) (n : ℕ) → 0 < n → goes_on (placed_of n p places) ≡ false
unwanted p places n h = rw (ne_eqb n 0 (λ z. omega arith)) (and-false p.more)

pub loop-p-init : goal.loop-p-init
loop-p-init c =
    rw c.requires.0 (
      record {
        reached = omega arith;
        pages = omega arith;
        few = omega arith;
        room = c.requires.1;
        within = λ i h. absurd (omega arith);
      },
      turn_start c.args.s.now,
    )

pub take_next-requires : goal.take_next-requires
take_next-requires c = c.loop-p.invariant.0

pub loop-p-smaller : goal.loop-p-smaller
loop-p-smaller c =
    let q = placed_of 0 c.loop-p.p c.loop-p.places in
    subst (λ (x : Placed). turns_left x < turns_left q) (sym c.in_ok-take_next.ensures.0)
    (turn_less c.args.s.now q (omega (arith, c.loop-p.invariant.0.pages, c.loop-p.invariant.0.few))
    (wanted c.loop-p.p c.loop-p.places c.loop-p-test.true))

pub loop-p-preserved : goal.loop-p-preserved
loop-p-preserved c =
    let t = turn_next c.args.s.now (placed_of 0 c.loop-p.p c.loop-p.places)
    (omega (arith, c.loop-p.invariant.0.pages, c.loop-p.invariant.0.few))
    (wanted c.loop-p.p c.loop-p.places c.loop-p-test.true) in (
      c.in_ok-take_next.ensures.1,
      c.loop-p.invariant.1 ∙ t
          ∙ ap (placed_from c.args.s.now) (sym c.in_ok-take_next.ensures.0),
    )

pub returns-in_err-take_next : goal.returns-in_err-take_next
returns-in_err-take_next c =
    let s = c.args.s.now in
    let e = c.in_err-take_next.field-0.0 in
    let r : c.from_residual.result ≡ Err e = search rules in
    let t = turn_next s (placed_of 0 c.loop-p.p c.loop-p.places)
    (omega (arith, c.loop-p.invariant.0.pages, c.loop-p.invariant.0.few))
    (wanted c.loop-p.p c.loop-p.places c.loop-p-test.true) in
    rw r (
      sym (c.loop-p.invariant.1 ∙ t ∙ ap (placed_from s) (sym c.in_err-take_next.ensures.0)
          ∙ turn_end s (placed_of (number_of e) c.take_next.new.p c.take_next.new.places)
          (unwanted c.take_next.new.p c.take_next.new.places (number_of e) (number_pos e))),
      c.in_err-take_next.ensures.1,
    )

pub returns : goal.returns
returns c = (
  sym (c.loop-p.invariant.1 ∙ turn_end c.args.s.now (placed_of 0 c.loop-p.p c.loop-p.places)
      (rw c.loop-p-test.false)),
  c.loop-p.invariant.0,
)
