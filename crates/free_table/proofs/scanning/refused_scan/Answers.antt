-- `free_table::scanning::refused_scan` meets its contract.
use Rattle.free_table.specs.Scanning.{pack_targets, refused_scan}
use Rattle.free_table.proofs.scanning.refused_scan.Goals as goal

pub returns : goal.returns
unfolding refused_scan pack_targets
returns c = rw c.new_scan.ensures
