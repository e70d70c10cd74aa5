-- `growth::outcomes::of_plan` meets its contract: the plan is a change, or none.
use Rattle.std.specs.Prelude.{◌≡◌, Ok, refl}
use Rattle.std.proofs.Common.{ap, sym, subst}
use Rattle.growth_rules.specs.Steps.{stays}
use Rattle.growth_rules.specs.Growing.{Outcome, step_of, outcome_of}
use Rattle.growth.specs.Answers.{call_of, grow_says, GrownSays}
use Rattle.growth.specs.Plans.{plan_says}
use Rattle.growth.proofs.outcomes.of_plan.Goals as goal

pub returns-in-None : goal.returns-in-None
unfolding grow_says plan_says outcome_of
returns-in-None c =
    let k = call_of c.args.offset c.args.mark c.args.table.now in
    let step : step_of c.args.l k ≡ stays = sym (rw c.in-None.is at c.requires.2.says) in
    subst (λ (o : Outcome). GrownSays c.args.l (Ok c.accepted.result) c.args.table.now o)
    (sym (ap (outcome_of c.args.l k) step))
    record { answer = rw c.accepted.ensures; layout = rw c.accepted.ensures; table = refl }
