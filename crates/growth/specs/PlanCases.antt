-- The plans, case by case, as the code comes to them; and the plan of a call on a valid layout.
use Rattle.std.specs.Prelude.{None, Result, Ok, ℕ, zero, suc, ◌+◌, ◌-◌, ◌≤◌, ◌<◌, ◌≡◌, refl, List, [], ◌∷◌, ◌++◌, Bool, true, false, cond, ◌||◌, length, get_or, take, drop}
use Rattle.std.proofs.Common.{sym, ◌∙◌, subst, arith, length-take, take-append-drop, drop-cons, length-take-le, get_or-take}
use Rattle.std.proofs.Math.Path.{ap}
use Rattle.std.proofs.Math.Seq.{split_at, slice}
use Rattle.lists.specs.Bools.{bool_cases}
use Rattle.refusals.specs.declared.Refusal.{Refusal}
use Rattle.layout.specs.declared.Component.{Component}
use Rattle.layout.specs.declared.Layout.{Layout}
use Rattle.layout.specs.Records.{no_component, ids_of, records_of, view}
use Rattle.layout.specs.Holder.{holder_of}
use Rattle.layout.specs.Facts.{Fields, Valid}
use Rattle.layout.specs.FactLaws.{kind_few}
use Rattle.layout.specs.ArrayLaws.{kind_at}
use Rattle.free_table.specs.declared.TargetRecord.{TargetRecord}
use Rattle.free_table.specs.Table.{any_low}
use Rattle.growth_rules.specs.Parts.{with_extent, fresh_id}
use Rattle.growth_rules.specs.Steps.{Call, Step, held_step, extension_step}
use Rattle.growth_rules.specs.Growing.{step_of}
use Rattle.growth_rules.specs.StepLaws.{step_after_all, held_step_lem, extension_step_lem, extension_after}
use Rattle.growth.specs.declared.Change.{Change}
use Rattle.growth.specs.Plans.{Plan, change_plan, plan_of, plan_says, replacing, granting, choosing_plan, held_plan, follow_plan, spill_plan}
use Rattle.growth.specs.Plans.{low_plan, extension_plan, plan_at, PlanFor}
use Rattle.growth.specs.PlanLaws.{Means, held_means, extension_means}

-- A component of the first n of an array has at most 16 stripes, if the rule of the fields holds of them.
pub few_stripes : (list : List Component) (n : ℕ) → Fields (take n list) → (d : Component) (i : ℕ) → i < n → n ≤ length list
    → (get_or list i d).stripe_count ≤ 16
few_stripes list n f d i h w =
    rw (← get_or-take n list i d h) (kind_few (kind_at (take n list) f d i (omega (arith, length-take n list))))

-- The component that follows has as many stripes as the one that replaces it.
pub follow_count : (j : ℕ) (m : Component) (cs : List Component) → (follow_plan j m cs).made.stripe_count ≡ m.stripe_count
unfolding follow_plan
follow_count j m [] = refl
follow_count j m (y ∷ cs) = by_extension y.extension
  where
    by_extension : (t : Bool)
        → (cond t (granting (j + 1) 3 m y m.begin) (replacing (j + 1) 2 m)).made.stripe_count ≡ m.stripe_count
    by_extension true = refl
    by_extension false = refl

module _ (mark : ℕ) (rs : List TargetRecord) where
  -- The component that holds the offset is init or an extension, or it is chosen for.
  module _ (i : ℕ) (c : Component) where
    abbrev held_by : Bool → Plan
    held_by t = cond t (Ok None) (plan_of (choosing_plan mark rs (replacing i 1 c)))

    pub held_stays : (c.init || c.extension) ≡ true → held_plan mark rs i c ≡ Ok None
    unfolding held_plan
    held_stays e = ap held_by e

    pub held_chooses : (c.init || c.extension) ≡ false → held_plan mark rs i c ≡ plan_of (choosing_plan mark rs (replacing i 1 c))
    unfolding held_plan
    held_chooses e = ap held_by e

  -- The component after the extension is init, or it is chosen for.
  module _ (j : ℕ) (x n : Component) (cs : List Component) where
    abbrev spill_by : Bool → Result Change Refusal
    spill_by t =
        let m = with_extent x.begin n.end n in
        cond t (Ok (replacing (j + 1) 2 m)) (choosing_plan mark rs (follow_plan j m cs))

    pub spill_init : n.init ≡ true → spill_plan mark rs j x n cs ≡ Ok (replacing (j + 1) 2 (with_extent x.begin n.end n))
    unfolding spill_plan
    spill_init e = ap spill_by e

    pub spill_chooses : n.init ≡ false
        → spill_plan mark rs j x n cs ≡ choosing_plan mark rs (follow_plan j (with_extent x.begin n.end n) cs)
    unfolding spill_plan
    spill_chooses e = ap spill_by e

  -- The component before the extension is chosen for, or has a low target, or has none.
  module _ (new j : ℕ) (c x : Component) (cs : List Component) where
    abbrev grant : Change
    grant = granting j 2 c x x.begin

    abbrev init_by : Bool → Result Change Refusal
    init_by t = cond t (low_plan mark rs new j c x cs) (Ok grant)

    abbrev extend_by : Bool → Plan
    extend_by t = plan_of (cond t (init_by (any_low mark rs (records_of c))) (choosing_plan mark rs grant))

    pub extension_chooses : c.init ≡ false → extension_plan mark rs new j (c ∷ x ∷ cs) ≡ plan_of (choosing_plan mark rs grant)
    unfolding extension_plan
    extension_chooses e = ap extend_by e

    pub extension_grants : c.init ≡ true → any_low mark rs (records_of c) ≡ false
        → extension_plan mark rs new j (c ∷ x ∷ cs) ≡ change_plan grant
    unfolding extension_plan
    extension_grants e f = ap extend_by e ∙ ap plan_of (ap init_by f)

    pub extension_low : c.init ≡ true → any_low mark rs (records_of c) ≡ true
        → extension_plan mark rs new j (c ∷ x ∷ cs) ≡ plan_of (low_plan mark rs new j c x cs)
    unfolding extension_plan
    extension_low e f = ap extend_by e ∙ ap plan_of (ap init_by f)

  -- The component at a position is an extension, or not.
  module _ (i : ℕ) (cs : List Component) where
    abbrev at_by : Bool → Plan
    at_by t =
        cond t (extension_plan mark rs (fresh_id (ids_of cs)) (i - 1) (drop (i - 1) cs))
        (held_plan mark rs i (get_or cs i no_component))

    pub at_extension : (get_or cs i no_component).extension ≡ true
        → plan_at mark rs i cs ≡ extension_plan mark rs (fresh_id (ids_of cs)) (i - 1) (drop (i - 1) cs)
    unfolding plan_at
    at_extension e = ap at_by e

    pub at_other : (get_or cs i no_component).extension ≡ false
        → plan_at mark rs i cs ≡ held_plan mark rs i (get_or cs i no_component)
    unfolding plan_at
    at_other e = ap at_by e

-- The components after a position keep the rule of the fields.
fields_drop : (j : ℕ) (cs : List Component) → Fields cs → Fields (drop j cs)
fields_drop zero cs f = f
fields_drop (suc j) [] f = f
fields_drop (suc j) (c ∷ cs) f = fields_drop j cs f.2

-- A valid layout, and the position of the component that holds the offset.
module _ (l : Layout) (v : Valid l) (k : Call) (i : ℕ) (at : i ≡ holder_of k.offset (view l)) (h : i < l.count) where
  abbrev cs : List Component
  cs = view l

  below : i < length cs
  below = omega (arith, v.whole)

  -- A plan that says the step of the components after position j is the plan of the call.
  plan_for : (j : ℕ) (p : Plan) (rest : List Component) (s : Step) → take j cs ++ rest ≡ cs → Means (take j cs) rest p s
      → step_after_all (take j cs) s ≡ step_of l k → PlanFor l k p
  plan_for j p rest s whole m e =
      record {
        says = subst (λ (all : List Component). plan_says p all ≡ step_after_all (take j cs) s) whole m.says ∙ e;
        within = rw (whole, v.whole) at m.within;
      }

  -- It is no extension.
  held_for : (c : Component) → get_or cs i no_component ≡ c → c.extension ≡ false
      → PlanFor l k (held_plan k.mark k.table i c)
  held_for c same e =
      let rest = drop (suc i) cs in
      let few : c.stripe_count ≤ 16 = rw (← same) (kind_few (kind_at cs v.keeps.fields no_component i below)) in
      let whole : take i cs ++ (c ∷ rest) ≡ cs = rw (← same) (sym (split_at cs i no_component below)) in
      let new = fresh_id (ids_of cs) in
      let ext : (get_or cs i no_component).extension ≡ false = rw same e in
      plan_for i (held_plan k.mark k.table i c) (c ∷ rest) (held_step k c rest) whole
      (held_means k (take i cs) i (sym (length-take-le i cs (omega (arith, below)))) c rest few)
      (rw (← same) (sym (held_step_lem k new no_component cs i (sym at) below ext)))

  -- It is an extension.
  extension_for : (j : ℕ) → i ≡ suc j → (get_or cs i no_component).extension ≡ true
      → PlanFor l k (extension_plan k.mark k.table (fresh_id (ids_of cs)) j (slice j l.count l.components))
  extension_for j next e =
      let c = get_or cs j no_component in
      let x = get_or cs (suc j) no_component in
      let rest = drop (suc (suc j)) cs in
      let new = fresh_id (ids_of cs) in
      let there : suc j < length cs = omega (arith, below) in
      let first : drop j cs ≡ c ∷ (x ∷ rest) =
      drop-cons cs j no_component (omega arith) ∙ ap (λ (l : List Component). c ∷ l) (drop-cons cs (suc j) no_component there) in
      let few = kind_few (kind_at cs v.keeps.fields no_component j (omega arith)) in
      let rest-fields : Fields rest = fields_drop (suc (suc j)) cs v.keeps.fields in
      rw first
      (plan_for j (extension_plan k.mark k.table new j (c ∷ (x ∷ rest))) (c ∷ (x ∷ rest)) (extension_step k new c x rest)
      (rw (← first) (take-append-drop j cs))
      (extension_means k (take j cs) j (sym (length-take-le j cs (omega arith))) c x new rest few
      (λ n after q. kind_few (rw q at rest-fields).1))
      (sym (extension_step_lem k new no_component cs j (sym at ∙ next) there (rw (← next) e))))

  -- Either way the plan for the component at that position is the plan of the call.
  pub plan_holder : PlanFor l k (plan_at k.mark k.table i cs)
  plan_holder =
      let c = get_or cs i no_component in
      bool_cases c.extension
      (λ e.
      let after = extension_after false 0 cs no_component i v.keeps.linked below e in
      rw (at_extension k.mark k.table i cs e) (extension_for (i - 1) (omega arith) e))
      (λ e. rw (at_other k.mark k.table i cs e) (held_for c refl e))
