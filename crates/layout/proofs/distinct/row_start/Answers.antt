-- `layout::distinct::row_start` meets its contract: what is asked of all before is what was found and what is left to
-- ask.
use Rattle.std.proofs.Common.{drop_of_length-le}
use Rattle.layout.proofs.distinct.row_start.Goals as goal

pub returns-then-alike : goal.returns-then-alike
returns-then-alike c = rw (c.loop-earlier.invariant, c.if-alike.true)

pub returns-else-alike : goal.returns-else-alike
returns-else-alike c = rw (
  c.loop-earlier.invariant,
  c.if-alike.false,
  drop_of_length-le c.args.before.now {i = c.loop-earlier.earlier-index} c.loop-earlier-test.false,
)
