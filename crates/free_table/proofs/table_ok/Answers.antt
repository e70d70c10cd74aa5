-- `free_table::table_ok` meets its contract.
use Rattle.std.proofs.Common.{arith, length}
use Rattle.std.proofs.lemmas.Bool.{le-leb, lt-leb}
use Rattle.free_table.specs.Table.{table_ok}
use Rattle.free_table.proofs.table_ok.Goals as goal

pub returns-then-table-le-MOST_RECORDS : goal.returns-then-table-le-MOST_RECORDS
unfolding table_ok
returns-then-table-le-MOST_RECORDS c = rw (le-leb (length c.args.table.now) 64 (omega arith), c.targets_rise.ensures)

pub returns-else-table-le-MOST_RECORDS : goal.returns-else-table-le-MOST_RECORDS
unfolding table_ok
returns-else-table-le-MOST_RECORDS c = rw (lt-leb (length c.args.table.now) 64 (omega arith))
