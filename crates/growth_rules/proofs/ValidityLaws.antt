-- A call of growth on a valid layout gives a valid layout back.
use Rattle.std.specs.Prelude.{◌+◌, ◌≤◌, ◌≡◌, refl, List, [], ◌∷◌, true, false, leb, eqb, length}
use Rattle.std.proofs.Common.{ap, arith, leb-true, leb-false, eqb-true}
use Rattle.lists.specs.Bools.{bool_cases, both_false}
use Rattle.lists.specs.Counting.{bit, elem, elem_false, count}
use Rattle.layout.specs.declared.Object.{Object}
use Rattle.layout.specs.declared.Component.{Component}
use Rattle.layout.specs.declared.Layout.{Layout}
use Rattle.layout.specs.Records.{ids_of, records_in, view, packed}
use Rattle.layout.specs.RecordLaws.{view_pack}
use Rattle.layout.specs.Distinct.{same_object}
use Rattle.layout.specs.Rules.{valid}
use Rattle.layout.specs.Facts.{Keeps}
use Rattle.layout.specs.FactLaws.{same_object_lem, valid_facts, facts_valid}
use Rattle.free_table.specs.Table.{table_ok}
use Rattle.growth_rules.specs.Parts.{fresh_id}
use Rattle.growth_rules.specs.PartLaws.{fresh_id_lem}
use Rattle.growth_rules.specs.Steps.{Call, changes}
use Rattle.growth_rules.specs.Growing.{Outcome, meets, step_of, grow_of}
use Rattle.growth_rules.specs.Replacing.{Changed, StepKeeps}
use Rattle.growth_rules.proofs.StepReplacing.{step_keeps}
use Rattle.growth_rules.specs.CallCases.{Called, refused, unchanged, grown}
use Rattle.growth_rules.proofs.CallCases.{call_cases}

-- If no object record names the object of another, none of the objects of the ones is among the others.
meets_apart : (os others : List Object) → meets os others ≡ false → (o : Object) → 1 ≤ count same_object o os
    → count same_object o others ≡ 0
meets_apart [] others e o h = absurd (omega arith)
meets_apart (a ∷ os) others e o h =
    let p = both_false (elem same_object a others) (meets os others) e in
    bool_cases (same_object o a) (λ q. rw (same_object_lem o a q) (elem_false same_object a others p.0))
    (λ q. meets_apart os others p.1 o (omega (arith, rw q at h)))

module _ (l : Layout) (k : Call) (v : valid l ≡ true) where
  -- The step of a call on a valid layout keeps what a step keeps.
  pub step_changed : table_ok k.table ≡ true → (cs : List Component) (os : List Object) → step_of l k ≡ changes cs os
      → Changed (fresh_id (ids_of (view l))) 0 false (view l) cs os
  step_changed t cs os e =
      let ks = (valid_facts l v).keeps in
      let new = fresh_id (ids_of (view l)) in
      let keeps : StepKeeps new 0 false (view l) (step_of l k) =
      step_keeps k new t (fresh_id_lem (ids_of (view l))).from 0 false (view l) ks.fields ks.linked
      in
      rw e at keeps

  -- So the components after it keep the component rules, if 18 does not apply.
  pub changed_keeps : (cs : List Component) (os : List Object)
      → Changed (fresh_id (ids_of (view l))) 0 false (view l) cs os
      → meets os (records_in (view l)) ≡ false → Keeps false cs
  changed_keeps cs os c apart =
      let before = (valid_facts l v).keeps in
      let new = fresh_id (ids_of (view l)) in
      record {
        fields = c.replaced.fields;
        linked = c.replaced.linked;
        ids = λ i.
            bool_cases (eqb i new)
            (λ e. let none : count eqb i (ids_of (view l)) ≡ 0 =
            rw (eqb-true i new e) (fresh_id_lem (ids_of (view l))).unused in
            let one : bit (eqb i new) ≡ 1 = rw e in omega (arith, c.replaced.ids i))
            (λ e. let none : bit (eqb i new) ≡ 0 = rw e in omega (arith, c.replaced.ids i, before.ids i));
        objects = λ o.
            bool_cases (leb 1 (count same_object o os))
            (λ e. let some = leb-true 1 (count same_object o os) e in
            omega (arith, c.replaced.objects o, c.once o, meets_apart os (records_in (view l)) apart o some))
            (λ e. omega (arith, c.replaced.objects o, before.objects o, leb-false 1 (count same_object o os) e));
      }

-- A layout that a step changes is valid again, if 17 and 18 do not apply.
pub changed_valid : (l : Layout) (k : Call) → valid l ≡ true → table_ok k.table ≡ true
    → (cs : List Component) (os : List Object) → step_of l k ≡ changes cs os → length cs ≤ 16
    → meets os (records_in (view l)) ≡ false → valid (packed (l.generation + 1) cs) ≡ true
changed_valid l k v t cs os e few apart =
    let c = step_changed l k v t cs os e in
    let whole = view_pack (l.generation + 1) cs few in
    facts_valid (packed (l.generation + 1) cs)
    record {
      complete = refl;
      some = c.some;
      few = few;
      whole = ap length whole;
      keeps = rw whole (changed_keeps l k v cs os c apart);
    }

-- A call on a valid layout gives a valid layout back.
pub grow_valid : (l : Layout) (k : Call) → valid l ≡ true → valid (grow_of l k).layout ≡ true
grow_valid l k v = given (call_cases l k)
  where
    given : {o : Outcome} → Called l k o → valid o.layout ≡ true
    given (refused n e) = v
    given unchanged = v
    given (grown cs os g) = changed_valid l k v g.table cs os g.step g.few g.apart
