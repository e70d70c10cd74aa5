-- `layout::distinct::id_fault` meets its contract: the first i ids pass their tests.
use Rattle.std.proofs.Common.{eqb}
use Rattle.lists.proofs.Found.{Fresh}
use Rattle.layout.proofs.distinct.id_fault.Given as goal

abbrev pub invariant-loop-i : goal.invariant-loop-i
invariant-loop-i l = Fresh eqb l.ids l.i
