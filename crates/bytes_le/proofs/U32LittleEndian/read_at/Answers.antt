-- The trait's `read_at` of `u32` meets its contract: std's conversion reads the bytes as the definition does.
use Rattle.std.proofs.Common.{arith, add_assoc}
use Rattle.bytes_le.specs.Numbers.{u32_at}
use Rattle.bytes_le.proofs.U32LittleEndian.read_at.Goals as goal

pub returns : goal.returns
unfolding u32_at
returns c = simp add_assoc (omega arith)
