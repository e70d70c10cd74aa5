-- The trait's `write_at` of `u16` meets its contract: what is copied are the definition's bytes.
use Rattle.std.proofs.Common.{◌∙◌}
use Rattle.bytes_le.specs.NumberLaws.{u16_length}
use Rattle.bytes_le.specs.Numbers.{u16_bytes}
use Rattle.bytes_le.proofs.Bytes.{copied, u16_to}
use Rattle.bytes_le.proofs.U16LittleEndian.write_at.Goals as goal

pub returns : goal.returns
returns c =
    let e = c.copy_from_slice.ensures.after ∙ c.to_le_bytes.ensures ∙ u16_to c.args.self c.ranges.self.fits in
    rw e (copied c.args.buffer.now (u16_bytes c.args.self) c.args.at 2 (u16_length c.args.self) c.requires)
