-- `listing::lines::push_head` meets its contract: what std prints of a number is `decimal`.
use Rattle.std.proofs.Common.{arith, append_assoc}
use Rattle.listing.proofs.Digits.{printed-decimal}
use Rattle.listing.proofs.lines.push_head.Goals as goal

pub returns-clause-value : goal.returns-clause-value
returns-clause-value c =
    rw (
      ← printed-decimal c.args.generation (omega arith),
      ← printed-decimal c.args.count c.ranges.count.fits,
      c.push_number-2.ensures.value,
      c.push_number.ensures.value,
      c.push_str.ensures.bytes,
    )
    (simp append_assoc)
