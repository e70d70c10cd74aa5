-- `growth::grow_valid` meets its contract: 10 and 15 are asked in their order, and then the step is made.
use Rattle.std.specs.Prelude.{ℕ, ◌≡◌, List, None, Some, Err, true, false, refl, leb, length}
use Rattle.std.proofs.Common.{sym, ◌∙◌, subst, arith}
use Rattle.std.proofs.lemmas.Bool.{le-leb, lt-leb}
use borrow.Author.Rules.{rules}
use Rattle.lists.specs.Tests.{found}
use Rattle.refusals.specs.declared.Refusal.TheVariants.{PastEnd}
use Rattle.refusals.specs.declared.Refusal.TheVariants as Refusal
use Rattle.layout.specs.declared.Layout.{Layout}
use Rattle.layout.specs.Records.{view}
use Rattle.layout.specs.Holder.{holder_of, last_end}
use Rattle.layout.specs.Facts.{Valid}
use Rattle.layout.specs.FactLaws.{valid_facts}
use Rattle.free_table.specs.declared.TargetRecord.{TargetRecord}
use Rattle.mapping.proofs.Firsts.{found_some, found_none}
use Rattle.growth_rules.specs.Growing.{Outcome}
use Rattle.growth_rules.specs.StepLaws.{past_holder}
use Rattle.growth.specs.Answers.{call_of, grow_says, GrownSays}
use Rattle.growth.specs.Plans.{plan_at, PlanFor}
use Rattle.growth.specs.OutcomeLaws.{grow_past, grow_bad_table, grow_steps}
use Rattle.growth.specs.PlanCases.{plan_holder}
use Rattle.growth.proofs.grow_valid.Goals as goal

-- The offset lies below the last end if a component holds it, and else at or past it.
module _ (l : Layout) (v : Valid l) (offset : ℕ) where
  inside : (i : ℕ) → found (holder_of offset (view l)) l.count ≡ Some i → leb (last_end (view l)) offset ≡ false
  inside i e =
      past_holder false (view l) v.keeps.linked v.keeps.fields offset
      ∙ lt-leb (length (view l)) (holder_of offset (view l)) (omega (arith, v.whole, found_some _ _ i e))

  past : found (holder_of offset (view l)) l.count ≡ None → leb (last_end (view l)) offset ≡ true
  past e =
      past_holder false (view l) v.keeps.linked v.keeps.fields offset
      ∙ le-leb (length (view l)) (holder_of offset (view l)) (omega (arith, v.whole, found_none _ _ e))

  -- The plan for the component that holds the offset is the plan of the call.
  plan_found : (mark : ℕ) (rs : List TargetRecord) (i : ℕ) → found (holder_of offset (view l)) l.count ≡ Some i
      → PlanFor l (call_of offset mark rs) (plan_at mark rs i (view l))
  plan_found mark rs i e =
      let s = found_some _ _ i e in plan_holder l v (call_of offset mark rs) i s.0 (omega (arith, s))

pub returns-in_err-i : goal.returns-in_err-i
unfolding grow_says
returns-in_err-i c =
    let r : c.from_residual.result ≡ Err PastEnd = search rules in
    let e =
    grow_past c.args.l (call_of c.args.offset c.args.mark c.args.table.now)
    (past c.args.l (valid_facts c.args.l c.requires) c.args.offset (sym c.holder.ensures ∙ c.in_err-i.ensures.ok_part))
    in
    subst (λ (o : Outcome). GrownSays c.args.l c.from_residual.result c.args.table.now o) (sym e)
    record { answer = rw r; layout = rw r; table = refl }

pub returns-then-not-table_ok : goal.returns-then-not-table_ok
unfolding grow_says
returns-then-not-table_ok c =
    let below = inside c.args.l (valid_facts c.args.l c.requires) c.args.offset c.in_ok-i.i
    (sym c.holder.ensures ∙ c.in_ok-i.ensures.ok_part) in
    let e =
    grow_bad_table c.args.l (call_of c.args.offset c.args.mark c.args.table.now) below
    (sym c.table_ok.ensures ∙ c.if-not-table_ok.true) in
    subst (λ (o : Outcome). GrownSays c.args.l (Err Refusal.Table) c.args.table.now o) (sym e)
    record { answer = refl; layout = refl; table = refl }

pub of_step-requires : goal.of_step-requires
of_step-requires c =
    let there = sym c.holder.ensures ∙ c.in_ok-i.ensures.ok_part in
    let plan = plan_found c.args.l (valid_facts c.args.l c.requires) c.args.offset c.args.mark c.args.table.now
    c.in_ok-i.i there in
    (c.requires, sym c.table_ok.ensures ∙ c.if-not-table_ok.false, rw (sym c.plan_at-plan.ensures) at plan)

pub returns : goal.returns
returns c =
    let there = sym c.holder.ensures ∙ c.in_ok-i.ensures.ok_part in
    let e =
    grow_steps c.args.l (call_of c.args.offset c.args.mark c.args.table.now)
    (inside c.args.l (valid_facts c.args.l c.requires) c.args.offset c.in_ok-i.i there)
    (sym c.table_ok.ensures ∙ c.if-not-table_ok.false) in
    subst (λ (o : Outcome). GrownSays c.args.l c.of_step.result c.of_step.new.table o) (sym e) c.of_step.ensures
