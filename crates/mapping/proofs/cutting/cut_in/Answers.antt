-- `mapping::cutting::cut_in` meets its contract: the components of a valid layout, as cutting sees them, are cut up to
-- the end of the last one.
use Rattle.mapping.specs.Cutting.{cut_in}
use Rattle.mapping.proofs.cutting.cut_in.Goals as goal

pub returns : goal.returns
unfolding cut_in
returns g c = rw (← c.last_end.ensures) c.cut_by.ensures
