-- `free_table::scanning::scan` meets its contract: the scan is that after the records before r.
use Rattle.std.proofs.Common.{take}
use Rattle.free_table.specs.ScanLaws.{fit_scanned}
use Rattle.free_table.proofs.scanning.scan.Goals as goal

pub see-s-requires : goal.see-s-requires
see-s-requires c =
    rw c.loop-r.invariant (fit_scanned c.args.asked (take c.loop-r.r-index (take c.args.asked.records c.args.table.now))
    c.requires.0)
