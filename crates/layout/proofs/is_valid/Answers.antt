-- `layout::is_valid` meets its contract: the flag and the count are tested first, and the array holds 16 components.
use Rattle.std.proofs.lemmas.Grind.{common_steps}
use Rattle.std.specs.Prelude.{◌≡◌, length}
use Rattle.std.proofs.Common.{arith, length-take-le, le-leb, eq-eqb}
use Rattle.std.proofs.lemmas.Bool.Decides.{nat_tests}
use Rattle.refusals.specs.Refusals.{ok_number}
use Rattle.layout.specs.Records.{view}
use Rattle.layout.specs.Rules.{valid}
use Rattle.layout.proofs.is_valid.Goals as goal

pub returns-then-l-le16 : goal.returns-then-l-le16
unfolding valid
returns-then-l-le16 c =
    let t = c.if-l-le16.true in
    let n : length (view c.args.l) ≡ c.args.l.count = length-take-le c.args.l.count c.args.l.components (omega arith) in
    rw (
      t.0,
      le-leb 1 c.args.l.count t.1,
      le-leb c.args.l.count 16 t.2,
      eq-eqb _ _ n,
      ← c.check_rules.ensures,
      ← ok_number,
    ) c.is_ok.ensures.value

pub returns-else-l-le16 : goal.returns-else-l-le16
unfolding valid
returns-else-l-le16 c = grind (arith, common_steps, nat_tests)
