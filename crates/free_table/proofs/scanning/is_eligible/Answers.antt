-- `free_table::scanning::is_eligible` meets its contract.
use Rattle.free_table.specs.Scanning.{eligible}
use Rattle.free_table.proofs.scanning.is_eligible.Goals as goal

pub returns-then-is_usable : goal.returns-then-is_usable
unfolding eligible
returns-then-is_usable c = rw (← c.is_usable.ensures, c.if-is_usable.true, c.is_listed.ensures)

pub returns-else-is_usable : goal.returns-else-is_usable
unfolding eligible
returns-else-is_usable c = rw (← c.is_usable.ensures, c.if-is_usable.false)
