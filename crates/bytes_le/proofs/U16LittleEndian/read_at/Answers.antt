-- The trait's `read_at` of `u16` meets its contract: std's conversion reads the bytes as the definition does.
use Rattle.std.proofs.Common.{arith}
use Rattle.bytes_le.specs.Numbers.{u16_at}
use Rattle.bytes_le.proofs.U16LittleEndian.read_at.Goals as goal

pub returns : goal.returns
unfolding u16_at
returns c = omega arith
