-- The trait's `write_at` of `u32` meets its contract: what is copied are the definition's bytes.
use Rattle.std.proofs.Common.{◌∙◌}
use Rattle.bytes_le.specs.NumberLaws.{u32_length}
use Rattle.bytes_le.specs.Numbers.{u32_bytes}
use Rattle.bytes_le.proofs.Bytes.{copied, u32_to}
use Rattle.bytes_le.proofs.U32LittleEndian.write_at.Goals as goal

pub returns : goal.returns
returns c =
    let e = c.copy_from_slice.ensures.after ∙ c.to_le_bytes.ensures ∙ u32_to c.args.self c.ranges.self.fits in
    rw e (copied c.args.buffer.now (u32_bytes c.args.self) c.args.at 4 (u32_length c.args.self) c.requires)
