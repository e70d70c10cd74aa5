-- `listing::lines::push_component` meets its contract: what std prints of a number is `decimal`, and of a signed one
-- `signed`.
use Rattle.std.specs.Int.{w16, w32, w64}
use Rattle.std.specs.Prelude.{FitsSigned}
use Rattle.std.proofs.Common.{arith, rules, to_z-of_z, append_assoc, Fits}
use Rattle.listing.proofs.Digits.{printed-decimal, printed-signed}
use Rattle.listing.proofs.lines.push_component.Goals as goal

pub returns-clause-value : goal.returns-clause-value
returns-clause-value c =
    let x = c.args.c.now in
    let id : Fits w16 x.id = search rules in
    let begin : Fits w64 x.begin = search rules in
    let stripes : Fits w16 x.stripe_count = search rules in
    let target : FitsSigned w32 x.first_target = search rules in
    rw (
      ← printed-decimal x.id (omega arith),
      ← printed-decimal x.begin begin.fits,
      ← printed-decimal x.stripe_count (omega arith),
      ← c.size_of.ensures,
      ← printed-decimal c.size_of.result c.size_of.type_inv,
      ← printed-signed x.first_target target,
      c.push_number-5.ensures.value,
      c.push_number-4.ensures.value,
      c.push_number-3.ensures.value,
      c.push_word.ensures.value,
      c.kind_word.ensures.value,
      c.push_end.ensures.value,
      c.push_number-2.ensures.value,
      c.push_number.ensures.value,
      to_z-of_z target,
    )
    (simp append_assoc)
