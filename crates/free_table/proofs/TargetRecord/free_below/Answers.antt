-- `free_table::TargetRecord::free_below` meets its contract.
use Rattle.std.specs.Prelude.{refl}
use Rattle.free_table.specs.Table.{free_below}
use Rattle.free_table.proofs.TargetRecord.free_below.Goals as goal

pub returns : goal.returns
unfolding free_below
returns c = refl
