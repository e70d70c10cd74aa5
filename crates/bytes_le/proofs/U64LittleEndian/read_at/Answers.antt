-- The trait's `read_at` of `u64` meets its contract: std's conversion reads the bytes as the definition does.
use Rattle.std.proofs.Common.{arith, add_assoc}
use Rattle.bytes_le.specs.Numbers.{u64_at}
use Rattle.bytes_le.proofs.U64LittleEndian.read_at.Goals as goal

pub returns : goal.returns
unfolding u64_at
returns c = simp add_assoc (omega arith)
