-- `growth::plans::MarkedTable::extension_plan` meets its contract.
use Rattle.std.specs.Prelude.{ℕ, ◌+◌, ◌<◌, ◌≡◌, List, ◌∷◌, length, get_or, drop}
use Rattle.std.proofs.Common.{sym, ap, ◌∙◌, arith}
use Rattle.std.proofs.lemmas.List.{drop_more}
use Rattle.layout.specs.declared.Component.{Component}
use Rattle.layout.specs.Records.{ids_of}
use Rattle.layout.specs.FactLaws.{kind_few}
use Rattle.layout.specs.ArrayLaws.{kind_at}
use Rattle.layout.proofs.Unread.{unread}
use Rattle.free_table.specs.declared.TargetRecord.{TargetRecord}
use Rattle.growth_rules.specs.Parts.{fresh_id}
use Rattle.growth.specs.Plans.{change_plan, plan_of, extension_plan}
use Rattle.growth.specs.PlanCases.{extension_chooses, extension_grants, extension_low}
use Rattle.growth.proofs.plans.MarkedTable.extension_plan.Goals as goal

-- The components from position j on.
from : (cs : List Component) (j : ℕ) → j + 1 < length cs
    → drop j cs ≡ get_or cs j unread ∷ (get_or cs (j + 1) unread ∷ drop (j + 2) cs)
from cs j h =
    let two : j + 1 + 1 ≡ j + 2 = omega arith in
    drop_more cs j unread (omega arith) ∙ rw (drop_more cs (j + 1) unread h, two)

-- The plan that is asked for, by these components.
asked : (cs : List Component) (j mark : ℕ) (rs : List TargetRecord) → j + 1 < length cs
    → (let plan = extension_plan mark rs (fresh_id (ids_of cs)) j in
    plan (get_or cs j unread ∷ (get_or cs (j + 1) unread ∷ drop (j + 2) cs)) ≡ plan (drop j cs))
asked cs j mark rs h = ap (extension_plan mark rs (fresh_id (ids_of cs)) j) (sym (from cs j h))

pub choosing-requires : goal.choosing-requires
choosing-requires c =
    -- The component at position j has at most 16 stripes.
    let few = kind_few (kind_at c.args.components.now c.requires.2 unread c.args.j (omega (arith, c.requires.1))) in
    rw c.granting-grant.ensures few

pub returns-then-not-c : goal.returns-then-not-c
returns-then-not-c c =
    ap plan_of c.choosing.ensures
    ∙ rw c.granting-grant.ensures
    (sym (extension_chooses c.args.self.mark c.args.self.table.now _ c.args.j _ _ _ c.if-not-c.true))
    ∙ asked c.args.components.now c.args.j c.args.self.mark c.args.self.table.now c.requires.1

pub returns-then-not-any_low : goal.returns-then-not-any_low
returns-then-not-any_low c =
    ap change_plan c.granting-grant.ensures
    ∙ sym (extension_grants c.args.self.mark c.args.self.table.now _ c.args.j _ _ _ c.if-not-c.false
    (rw (← c.objects.ensures) (sym c.any_low.ensures ∙ c.if-not-any_low.true)))
    ∙ asked c.args.components.now c.args.j c.args.self.mark c.args.self.table.now c.requires.1

pub low_plan-requires : goal.low_plan-requires
low_plan-requires c =
    let few = kind_few (kind_at c.args.components.now c.requires.2 unread c.args.j (omega (arith, c.requires.1))) in
    (c.requires.0, c.requires.1, c.requires.2, few)

pub returns : goal.returns
returns c =
    ap plan_of c.low_plan.ensures
    ∙ sym (extension_low c.args.self.mark c.args.self.table.now _ c.args.j _ _ _ c.if-not-c.false
    (rw (← c.objects.ensures) (sym c.any_low.ensures ∙ c.if-not-any_low.false)))
    ∙ asked c.args.components.now c.args.j c.args.self.mark c.args.self.table.now c.requires.1
