-- `free_table::raising::raise` meets its contract: the records before r are raised.
use Rattle.std.proofs.Common.{◌≡◌}
use Rattle.lists.specs.Slices.{map_first}
use Rattle.free_table.specs.ChosenFacts.{raised_in}
use Rattle.free_table.proofs.raising.raise.Given as goal

abbrev pub invariant-loop-r : goal.invariant-loop-r
invariant-loop-r l = l.r-items ≡ map_first (raised_in l.objects) l.r-index l.initial.r-items
