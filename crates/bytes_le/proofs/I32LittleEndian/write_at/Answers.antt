-- The trait's `write_at` of `i32` meets its contract: what is written are the bits of the number.
use Rattle.std.proofs.Common.{rules}
use Rattle.bytes_le.specs.Numbers.{bits_of}
use Rattle.bytes_le.proofs.I32LittleEndian.write_at.Goals as goal

pub returns : goal.returns
unfolding bits_of
returns c = search rules
