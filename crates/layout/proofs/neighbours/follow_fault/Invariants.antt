-- `layout::neighbours::follow_fault` meets its contract: of the tests from `from` on, i pass.
use Rattle.std.proofs.Common.{false}
use Rattle.lists.proofs.Found.{Passes}
use Rattle.layout.specs.Neighbours.{follows_ok, may_follow}
use Rattle.layout.proofs.neighbours.follow_fault.Given as goal

abbrev pub invariant-loop-i : goal.invariant-loop-i
invariant-loop-i l = Passes follows_ok may_follow false l.list l.from l.i l.may
