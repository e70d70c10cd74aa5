-- `layout::distinct::row_start` meets its contract: what is asked of all before is what was found and what is left to
-- ask.
use Rattle.std.proofs.Common.{◌≡◌, ◌||◌, eqb, drop}
use Rattle.lists.specs.Counting.{elem}
use Rattle.layout.proofs.distinct.row_start.Given as goal

abbrev pub invariant-loop-earlier : goal.invariant-loop-earlier
invariant-loop-earlier l = elem eqb l.key l.before ≡ (l.alike || elem eqb l.key (drop l.earlier-index l.before))
