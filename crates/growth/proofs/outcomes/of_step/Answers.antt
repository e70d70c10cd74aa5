-- `growth::outcomes::of_step` meets its contract: a plan that is a refusal is the one for want of usable targets.
use Rattle.std.specs.Prelude.{◌≡◌, Err, refl}
use Rattle.std.proofs.Common.{ap, subst}
use borrow.Author.Rules.{rules}
use Rattle.growth_rules.specs.Growing.{Outcome, outcome_of}
use Rattle.growth.specs.Answers.{call_of, grow_says, GrownSays}
use Rattle.growth.specs.Plans.{plan_says, PlanFor}
use Rattle.growth.proofs.outcomes.of_step.Goals as goal

pub returns-in_err-plan : goal.returns-in_err-plan
unfolding grow_says plan_says outcome_of
returns-in_err-plan c =
    let k = call_of c.args.offset c.args.mark c.args.table.now in
    let r : c.from_residual.result ≡ Err c.in_err-plan.field-0.0 = search rules in
    let plan : PlanFor c.args.l k (Err c.in_err-plan.field-0.0) = rw c.in_err-plan.was at c.requires.2 in
    subst (λ (o : Outcome). GrownSays c.args.l c.from_residual.result c.args.table.now o)
    (ap (outcome_of c.args.l k) plan.says)
    record { answer = rw (r, plan.within); layout = rw r; table = refl }
