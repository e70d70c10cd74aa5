-- `layout::fields::is_target` meets its contract: as numbers of 64 bits with a sign, the two are equal exactly if they
-- are the same number.
use Rattle.std.proofs.Common.{arith}
use mir.Syntax.{w32}
use mir.Facts.{to_z-of_z}
use Rattle.layout.proofs.Signed.{target_bits}
use Rattle.layout.proofs.fields.is_target.Goals as goal

pub returns : goal.returns
returns c = rw (c.from.ensures, c.from-2.ensures, to_z-of_z {w = w32} {z = c.args.z} c.ranges.z)
    (target_bits c.args.z c.args.target c.ranges.z (omega arith))
