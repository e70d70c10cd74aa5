-- `free_table::scanning::scan` meets its contract: the scan is that after the records before r.
use Rattle.std.proofs.Common.{◌≡◌, take}
use Rattle.free_table.specs.Scanning.{scanned}
use Rattle.free_table.proofs.scanning.scan.Given as goal

abbrev pub invariant-loop-r : goal.invariant-loop-r
invariant-loop-r l = l.s ≡ scanned l.fn.asked (take l.r-index l.r-items)
