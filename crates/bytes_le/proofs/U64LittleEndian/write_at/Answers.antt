-- The trait's `write_at` of `u64` meets its contract: what is copied are the definition's bytes.
use Rattle.std.proofs.Common.{◌∙◌}
use Rattle.bytes_le.specs.NumberLaws.{u64_length}
use Rattle.bytes_le.specs.Numbers.{u64_bytes}
use Rattle.bytes_le.proofs.Bytes.{copied, u64_to}
use Rattle.bytes_le.proofs.U64LittleEndian.write_at.Goals as goal

pub returns : goal.returns
returns c =
    let e = c.copy_from_slice.ensures.after ∙ c.to_le_bytes.ensures ∙ u64_to c.args.self c.ranges.self.fits in
    rw e (copied c.args.buffer.now (u64_bytes c.args.self) c.args.at 8 (u64_length c.args.self) c.requires)
