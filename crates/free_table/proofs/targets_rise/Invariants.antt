-- `free_table::targets_rise` meets its contract: the records rise exactly if those from r on rise from the lowest
-- target that may be there.
use Rattle.std.proofs.Common.{◌≡◌, drop}
use Rattle.free_table.specs.Table.{rising}
use Rattle.free_table.proofs.targets_rise.Given as goal

abbrev pub invariant-loop-r : goal.invariant-loop-r
invariant-loop-r l = rising 0 l.table ≡ rising l.from (drop l.r-index l.table)
