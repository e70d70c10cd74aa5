-- `free_table::TargetRecord::is_usable` meets its contract.
use Rattle.free_table.specs.Table.{usable}
use Rattle.free_table.proofs.TargetRecord.is_usable.Goals as goal

pub returns-then-not-free_below : goal.returns-then-not-free_below
unfolding usable
returns-then-not-free_below c = rw (← c.free_below.ensures, c.if-not-free_below.true)

pub returns-else-not-free_below : goal.returns-else-not-free_below
unfolding usable
returns-else-not-free_below c = rw (← c.free_below.ensures, c.if-not-free_below.false)
