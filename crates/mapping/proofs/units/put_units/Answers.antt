-- `mapping::units::put_units` meets its contract: each turn writes the piece at byte a and goes on to the next unit.
use Rattle.std.proofs.Common.{refl, arith}
use Rattle.mapping.proofs.UnitSteps.{known_by, after_last, after_other, row_end, stripe_less}
use Rattle.mapping.proofs.UnitSteps.{written_none, written_next, written_last, one_more}
use Rattle.mapping.proofs.units.put_units.Goals as goal

pub loop-left-init : goal.loop-left-init
loop-left-init c = (
  known_by (omega arith) (omega arith) (omega arith) (omega arith),
  written_none c.requires.2 (omega arith) (omega arith),
)

pub put_piece-requires : goal.put_piece-requires
put_piece-requires c =
    one_more c.requires.0 c.requires.1 c.loop-left.invariant.0 c.loop-left.invariant.1 c.requires.3

pub overflow_add-stripe : goal.overflow_add-stripe
overflow_add-stripe c = omega (arith, stripe_less c.requires.0 c.requires.1 c.loop-left.invariant.0)

pub overflow_add-row : goal.overflow_add-row
overflow_add-row c = omega (arith, row_end c.requires.0 c.requires.1 c.loop-left.invariant.0)

pub loop-left-preserved-then-stripe-count : goal.loop-left-preserved-then-stripe-count
loop-left-preserved-then-stripe-count c = (
  after_last c.requires.0 c.requires.1 c.loop-left.invariant.0 c.if-stripe-count.true refl refl,
  written_next c.requires.0 c.requires.1 c.loop-left.invariant.0 c.loop-left.invariant.1 c.loop-left-test.true refl
      refl c.put_piece.auto.room
      c.put_piece.ensures,
)

pub loop-left-preserved : goal.loop-left-preserved
loop-left-preserved c = (
  after_other c.requires.0 c.requires.1 c.loop-left.invariant.0 c.if-stripe-count.false refl refl,
  written_next c.requires.0 c.requires.1 c.loop-left.invariant.0 c.loop-left.invariant.1 c.loop-left-test.true refl
      refl c.put_piece.auto.room
      c.put_piece.ensures,
)

pub put_piece-requires-2 : goal.put_piece-requires-2
put_piece-requires-2 c =
    one_more c.requires.0 c.requires.1 c.loop-left.invariant.0 c.loop-left.invariant.1 c.requires.3

pub returns : goal.returns
returns c =
    written_last c.requires.0 c.requires.1 c.loop-left.invariant.0 c.loop-left.invariant.1 c.loop-left-test.false refl
    c.put_piece-2.ensures
