-- `growth::plans::plan_at` meets its contract: the component at the position is an extension, or not.
use Rattle.std.specs.Prelude.{ℕ, ◌≤◌, ◌<◌, ◌≡◌, List, true, length, get_or, Err}
use Rattle.std.proofs.Common.{sym, ap, ◌∙◌, arith}
use Rattle.std.proofs.lemmas.Bool.{not-true, not-false}
use borrow.Author.Rules.{rules}
use Rattle.lists.specs.Slices.{any_default}
use Rattle.layout.specs.declared.Component.{Component}
use Rattle.layout.specs.declared.Layout.{Layout}
use Rattle.layout.specs.Records.{no_component, view}
use Rattle.layout.specs.Facts.{Valid}
use Rattle.layout.specs.FactLaws.{valid_facts, kind_few}
use Rattle.layout.specs.ArrayLaws.{kind_at}
use Rattle.layout.proofs.Unread.{unread}
use Rattle.growth_rules.specs.StepLaws.{extension_after}
use Rattle.growth.specs.Plans.{held_plan}
use Rattle.growth.specs.PlanCases.{at_extension, at_other}
use Rattle.growth.proofs.plans.plan_at.Goals as goal

-- Component i of a valid layout, which code reads from a list that is the same.
module _ (l : Layout) (v : Valid l) (cs : List Component) (same : cs ≡ view l) (i : ℕ) (h : i < l.count) where
  below : i < length (view l)
  below = omega (arith, v.whole)

  read : get_or cs i unread ≡ get_or (view l) i no_component
  read = rw same (any_default (view l) i unread no_component below)

  few : (get_or cs i unread).stripe_count ≤ 16
  few = rw same (kind_few (kind_at (view l) v.keeps.fields unread i below))

  -- It is an extension,
  module _ (e : (get_or cs i unread).extension ≡ true) where
    is_extension_lem : (get_or (view l) i no_component).extension ≡ true
    is_extension_lem = ap (λ (d : Component). d.extension) (sym read) ∙ e

    -- so that it is not first.
    not_first : 0 < i
    not_first = extension_after _ 0 (view l) no_component i v.keeps.linked below is_extension_lem

pub components-components-requires : goal.components-components-requires
components-components-requires c = (valid_facts c.args.l.now c.requires.0).few

pub bounds-components-i : goal.bounds-components-i
bounds-components-i c =
    omega (
      arith,
      (valid_facts c.args.l.now c.requires.0).whole,
      ap length c.components-components.ensures,
      c.requires.1,
    )

pub offset_bounds-components-i : goal.offset_bounds-components-i
offset_bounds-components-i c = omega (arith, (valid_facts c.args.l.now c.requires.0).few, c.requires.1)

pub held_plan-requires : goal.held_plan-requires
held_plan-requires c =
    few c.args.l.now (valid_facts c.args.l.now c.requires.0) _ c.components-components.ensures c.args.i c.requires.1

pub returns-then-not-c : goal.returns-then-not-c
returns-then-not-c c =
    let l = c.args.l.now in
    let same = read l (valid_facts l c.requires.0) _ c.components-components.ensures c.args.i c.requires.1 in
    c.held_plan.ensures ∙ ap (held_plan c.args.mark c.args.table.now c.args.i) same
    ∙ sym (at_other c.args.mark c.args.table.now c.args.i (view l)
    (ap (λ (d : Component). d.extension) (sym same) ∙ not-true _ c.if-not-c.true))

pub overflow_sub-i : goal.overflow_sub-i
overflow_sub-i c =
    let k =
    not_first c.args.l.now (valid_facts c.args.l.now c.requires.0) _ c.components-components.ensures c.args.i
    c.requires.1
    (not-false _ c.if-not-c.false) in
    omega (arith, k)

pub extension_plan-requires : goal.extension_plan-requires
extension_plan-requires c =
    let v = valid_facts c.args.l.now c.requires.0 in
    let k = not_first c.args.l.now v _ c.components-components.ensures c.args.i c.requires.1
    (not-false _ c.if-not-c.false) in
    rw c.components-components.ensures (
      omega (arith, v.few, v.whole),
      omega (arith, k, v.whole, c.requires.1),
      v.keeps.fields,
    )

-- The plan of an extension.
pub returns-in_err-change : goal.returns-in_err-change
returns-in_err-change c =
    let l = c.args.l.now in
    let x =
    is_extension_lem l (valid_facts l c.requires.0) _ c.components-components.ensures c.args.i c.requires.1
    (not-false _ c.if-not-c.false) in
    let r : c.from_residual.result ≡ Err c.in_err-change.field-0.0 = search rules in
    r ∙ (rw c.components-components.ensures at c.in_err-change.ensures)
    ∙ sym (at_extension c.args.mark c.args.table.now c.args.i (view l) x)

pub returns : goal.returns
returns c =
    let l = c.args.l.now in
    let x =
    is_extension_lem l (valid_facts l c.requires.0) _ c.components-components.ensures c.args.i c.requires.1
    (not-false _ c.if-not-c.false) in
    (rw c.components-components.ensures at c.in_ok-change.ensures)
    ∙ sym (at_extension c.args.mark c.args.table.now c.args.i (view l) x)
