-- `listing::lines::push_refused` meets its contract: what std prints of a number is `decimal`.
use Rattle.std.proofs.Common.{arith, append_assoc}
use Rattle.listing.proofs.Digits.{printed-decimal}
use Rattle.listing.proofs.lines.push_refused.Goals as goal

pub returns : goal.returns
returns c =
    rw (
      ← c.number.ensures,
      ← printed-decimal c.number.result (omega (arith, c.number.type_inv)),
      ← printed-decimal c.args.page c.ranges.page.fits,
      c.push_number-2.ensures.value,
      c.push_number.ensures.value,
      c.push_str.ensures.bytes,
    )
    (simp append_assoc)
