-- `bytes_le::flags::is_set` meets its contract: the mask is that of the bit.
use Rattle.std.proofs.lemmas.Nat.{one_shl}
use Rattle.bytes_le.proofs.Masks.{mask_bit}
use Rattle.bytes_le.proofs.flags.is_set.Goals as goal

pub returns : goal.returns
returns c = rw (one_shl c.args.bit 16 c.requires) (mask_bit c.args.bit c.args.flags)
