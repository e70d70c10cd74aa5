-- `free_table::scanning::new_scan` meets its contract.
use Rattle.std.specs.Prelude.{refl}
use Rattle.layout.specs.Records.{pack_objects}
use Rattle.free_table.specs.Scanning.{new_scan}
use Rattle.free_table.proofs.scanning.new_scan.Goals as goal

pub returns : goal.returns
unfolding new_scan pack_objects
returns c = refl
