-- `bytes_le::flags::only_first_bits` meets its contract: the mask is that of the bits from bit n on.
use Rattle.std.proofs.Common.{◌≡◌, ◌+◌, ◌-◌, ◌^◌, arith, pow_pos}
use Rattle.std.proofs.lemmas.Nat.{one_shl}
use Rattle.bytes_le.proofs.Masks.{mask_rest}
use Rattle.bytes_le.proofs.flags.only_first_bits.Goals as goal

pub returns : goal.returns
returns c =
    let all : 16 - c.args.n + c.args.n ≡ 16 = omega (arith, c.requires) in
    let mask : 65535 - (2 ^ c.args.n - 1) ≡ 65536 - 2 ^ c.args.n = omega (arith, pow_pos c.args.n) in
    rw (one_shl c.args.n 16 c.requires, mask) (rw all at
    (mask_rest (16 - c.args.n) c.args.n c.args.flags (rw all c.ranges.flags.fits)))
