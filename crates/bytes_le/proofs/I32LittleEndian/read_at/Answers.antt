-- The trait's `read_at` of `i32` meets its contract: the signed number of the bits that are read.
use Rattle.std.proofs.Common.{rules}
use Rattle.bytes_le.specs.Numbers.{i32_of}
use Rattle.bytes_le.proofs.I32LittleEndian.read_at.Goals as goal

pub returns : goal.returns
unfolding i32_of
returns c = search rules
