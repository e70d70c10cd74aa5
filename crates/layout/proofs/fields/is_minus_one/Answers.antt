-- `layout::fields::is_minus_one` meets its contract: the 32 bits of -1 are those of no other number.
use Rattle.layout.proofs.Signed.{minus_one_bits}
use Rattle.layout.proofs.fields.is_minus_one.Goals as goal

pub returns : goal.returns
returns c = minus_one_bits c.args.z c.ranges.z
