-- `growth::outcomes::check` meets its contract: the refusals are asked in their order.
use Rattle.std.specs.Prelude.{ℕ, ◌+◌, ◌-◌, ◌≤◌, ◌≡◌, true, length}
use Rattle.std.proofs.Common.{sym, ◌∙◌, arith, le-ltb, lt-ltb, eq-eqb, ne_eqb}
use Rattle.layout.specs.declared.Layout.{Layout}
use Rattle.layout.specs.Records.{view}
use Rattle.layout.specs.Rules.{valid}
use Rattle.layout.specs.FactLaws.{valid_facts}
use Rattle.growth.specs.declared.Change.{Change}
use Rattle.growth.specs.Plans.{replacement_count, planned, change_refusal}
use Rattle.growth.specs.SpliceLaws.{planned_length}
use Rattle.growth.proofs.outcomes.check.Goals as goal

-- `planned_count` gives the number of components by the change.
counted : (l : Layout) (p : Change) (n : ℕ) → valid l ≡ true → p.at + p.old ≤ l.count
    → n ≡ l.count - p.old + replacement_count p → n ≡ length (planned p (view l))
counted l p n v w e =
    let m = (valid_facts l v).whole in
    e ∙ sym (rw m at (planned_length p (view l) (omega (arith, m))))

pub planned_count-requires : goal.planned_count-requires
planned_count-requires c = ((valid_facts c.args.l.now c.requires.0).few, c.requires.1.within)

pub meets_layout-requires : goal.meets_layout-requires
meets_layout-requires c = (valid_facts c.args.l.now c.requires.0).few

pub returns-then-planned_count-gt-MOST_COMPONENTS : goal.returns-then-planned_count-gt-MOST_COMPONENTS
unfolding change_refusal
returns-then-planned_count-gt-MOST_COMPONENTS c =
    let k = counted c.args.l.now c.args.p c.planned_count.result c.requires.0 c.requires.1.within
    c.planned_count.ensures in
    sym (rw (lt-ltb 16 (length (planned c.args.p (view c.args.l.now))) (omega arith)))

pub returns-then-meets_layout : goal.returns-then-meets_layout
unfolding change_refusal
returns-then-meets_layout c =
    let k = counted c.args.l.now c.args.p c.planned_count.result c.requires.0 c.requires.1.within
    c.planned_count.ensures in
    sym (rw (
      le-ltb 16 (length (planned c.args.p (view c.args.l.now))) (omega arith),
      sym c.meets_layout.ensures ∙ c.if-meets_layout.true,
    ))

pub returns-then-l : goal.returns-then-l
unfolding change_refusal
returns-then-l c =
    let l = c.args.l.now in
    let k = counted l c.args.p c.planned_count.result c.requires.0 c.requires.1.within c.planned_count.ensures in
    sym (rw (
      le-ltb 16 (length (planned c.args.p (view l))) (omega arith),
      sym c.meets_layout.ensures ∙ c.if-meets_layout.false,
      eq-eqb l.generation 4294967295 c.if-l.true,
    ))

pub returns : goal.returns
unfolding change_refusal
returns c =
    let l = c.args.l.now in
    let k = counted l c.args.p c.planned_count.result c.requires.0 c.requires.1.within c.planned_count.ensures in
    sym (rw (
      le-ltb 16 (length (planned c.args.p (view l))) (omega arith),
      sym c.meets_layout.ensures ∙ c.if-meets_layout.false,
      ne_eqb l.generation 4294967295 c.if-l.false,
    ))
