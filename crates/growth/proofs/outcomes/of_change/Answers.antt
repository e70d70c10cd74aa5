-- `growth::outcomes::of_change` meets its contract: the change is refused, or it gives the layout by the change and the
-- raised table.
use Rattle.std.specs.Prelude.{◌≡◌, Ok, Err, refl}
use Rattle.std.proofs.Common.{ap, sym, ◌∙◌, subst, arith}
use borrow.Author.Rules.{rules}
use Rattle.refusals.specs.Refusals.{number_of, number_pos}
use Rattle.layout.specs.declared.Layout.{Layout}
use Rattle.layout.specs.Records.{view}
use Rattle.layout.specs.FactLaws.{valid_facts}
use Rattle.growth_rules.specs.Steps.{Call, changes}
use Rattle.growth_rules.specs.Growing.{Outcome, step_of, outcome_of, refusing}
use Rattle.growth_rules.proofs.ValidityLaws.{changed_valid}
use Rattle.growth.specs.declared.Change.{Change}
use Rattle.growth.specs.Answers.{call_of, grow_says, GrownSays}
use Rattle.growth.specs.Plans.{planned, planned_objects, change_plan, plan_says, change_refusal, PlanFor}
use Rattle.growth.specs.SpliceLaws.{planned_length}
use Rattle.growth.specs.OutcomeLaws.{Accepted, change_refused, change_accepted}
use Rattle.growth.proofs.outcomes.of_change.Goals as goal

-- The step of the call is the change.
step : (l : Layout) (k : Call) (p : Change) → PlanFor l k (change_plan p)
    → step_of l k ≡ changes (planned p (view l)) (planned_objects p)
unfolding plan_says
step l k p f = sym f.says

pub check-requires : goal.check-requires
check-requires c = (c.requires.0, c.requires.2.within)

pub returns-in_err-check : goal.returns-in_err-check
unfolding grow_says
returns-in_err-check c =
    let k = call_of c.args.offset c.args.mark c.args.table.now in
    let e = c.in_err-check.field-0.0 in
    let r : c.from_residual.result ≡ Err e = search rules in
    let s : outcome_of c.args.l k (step_of c.args.l k) ≡ refusing c.args.l k (number_of e) =
    ap (outcome_of c.args.l k) (step c.args.l k c.args.p c.requires.2)
    ∙ change_refused c.args.l k (planned c.args.p (view c.args.l)) (planned_objects c.args.p) (number_of e)
    c.in_err-check.ensures
    (λ z. omega (arith, number_pos e)) in
    subst (λ (o : Outcome). GrownSays c.args.l c.from_residual.result c.args.table.now o) (sym s)
    record { answer = rw r; layout = rw r; table = refl }

-- Nothing refuses the change.
module _ (l : Layout) (k : Call) (p : Change) (n : 0 ≡ change_refusal l (planned p (view l)) (planned_objects p)) where
  free : Accepted l k (planned p (view l)) (planned_objects p)
  free = change_accepted l k (planned p (view l)) (planned_objects p) 0 n refl

pub changed-requires : goal.changed-requires
changed-requires c =
    let v = valid_facts c.args.l c.requires.0 in
    let k = free c.args.l (call_of c.args.offset c.args.mark c.args.table.now) c.args.p c.in_ok-check.ensures in
    let n = planned_length c.args.p (view c.args.l) (omega (arith, c.requires.2.within.within, v.whole)) in
    let within = c.requires.2.within.within in
    (v.few, within, omega (arith, n, k.few, v.whole, within), omega (arith, k.below))

pub accepted-requires : goal.accepted-requires
accepted-requires c =
    let call = call_of c.args.offset c.args.mark c.args.table.now in
    let k = free c.args.l call c.args.p c.in_ok-check.ensures in
    rw c.changed.ensures
    (changed_valid c.args.l call c.requires.0 c.requires.1 (planned c.args.p (view c.args.l)) (planned_objects c.args.p)
    (step c.args.l call c.args.p c.requires.2) k.few k.apart)

pub returns : goal.returns
unfolding grow_says
returns c =
    let call = call_of c.args.offset c.args.mark c.args.table.now in
    let k = free c.args.l call c.args.p c.in_ok-check.ensures in
    let e = ap (outcome_of c.args.l call) (step c.args.l call c.args.p c.requires.2) ∙ k.gives in
    subst (λ (o : Outcome). GrownSays c.args.l (Ok c.accepted.result) c.raise.new.table o) (sym e)
    record {
      answer = rw (c.accepted.ensures, c.changed.ensures);
      layout = rw (c.accepted.ensures, c.changed.ensures);
      table = c.raise.ensures ∙ rw c.requires.2.within.counted;
    }
