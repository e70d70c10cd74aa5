-- `layout::neighbours::begin_fault` meets its contract: of the tests from `from` on, i pass.
use Rattle.lists.proofs.Found.{Passes}
use Rattle.layout.specs.Neighbours.{begins_at, end_of}
use Rattle.layout.proofs.neighbours.begin_fault.Given as goal

abbrev pub invariant-loop-i : goal.invariant-loop-i
invariant-loop-i l = Passes begins_at end_of 0 l.list l.from l.i l.at
