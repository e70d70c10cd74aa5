-- `growth::grow` meets its contract: 1 is asked first.
use Rattle.std.specs.Prelude.{Err, refl}
use Rattle.std.proofs.Common.{sym, ◌∙◌, subst}
use Rattle.refusals.specs.declared.Refusal.TheVariants.{NotValid}
use Rattle.growth_rules.specs.Growing.{Outcome}
use Rattle.growth.specs.Answers.{call_of, grow_says, GrownSays}
use Rattle.growth.specs.OutcomeLaws.{grow_invalid, grow_checked}
use Rattle.growth.proofs.grow.Goals as goal

pub returns-then-not-is_valid : goal.returns-then-not-is_valid
unfolding grow_says
returns-then-not-is_valid c =
    let e = grow_invalid c.args.l (call_of c.args.offset c.args.mark c.args.table.now)
    (sym c.is_valid.ensures ∙ c.if-not-is_valid.true) in
    subst (λ (o : Outcome). GrownSays c.args.l (Err NotValid) c.args.table.now o) (sym e)
    record { answer = refl; layout = refl; table = refl }

pub returns : goal.returns
returns c =
    let e = grow_checked c.args.l (call_of c.args.offset c.args.mark c.args.table.now)
    (sym c.is_valid.ensures ∙ c.if-not-is_valid.false) in
    subst (λ (o : Outcome). GrownSays c.args.l c.grow_valid.result c.grow_valid.new.table o) (sym e)
    c.grow_valid.ensures
