-- `free_table::raise` meets its contract: what is raised of all the records is the records before r, and what is raised
-- of those from r on.
use Rattle.std.proofs.Common.{◌≡◌, ◌++◌, take, drop}
use Rattle.free_table.specs.Table.{usable}
use Rattle.free_table.specs.Choosing.{raised_first}
use Rattle.free_table.proofs.raise.Given as goal

abbrev pub invariant-loop-r : goal.invariant-loop-r
invariant-loop-r l =
    take l.r-index l.r-items ++ raised_first (usable l.mark) l.left (drop l.r-index l.r-items)
    ≡ raised_first (usable l.mark) l.s l.fn.table
