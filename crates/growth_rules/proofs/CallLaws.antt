-- What a call of growth gives, law by law. What is in quotes is document 01's.
use Rattle.std.specs.Prelude.{ℕ, zero, suc, ◌+◌, ◌≤◌, ◌<◌, ◌≡◌, refl, ◌⊎◌, true, false, ◌&&◌, ◌||◌, eqb, length}
use Rattle.std.proofs.Math.Path.{sym}
use Rattle.std.proofs.Common.{ap, inl, inr, arith}
use mathlib.Core.List.{List, [], ◌∷◌}
use Rattle.std.proofs.lemmas.Bool.{eqb-false}
use Rattle.lists.specs.Bools.{cond_elim, clash}
use Rattle.lists.specs.Counting.{elem}
use Rattle.layout.specs.declared.Object.{Object}
use Rattle.layout.specs.declared.Component.{Component}
use Rattle.layout.specs.declared.Layout.{Layout}
use Rattle.layout.specs.Records.{ids_of, records_of, view}
use Rattle.layout.specs.Holder.{holds}
use Rattle.mapping.specs.Answers.{Answer, gives, refuses}
use Rattle.mapping.specs.AnswerLaws.{gives_or_refuses, answer_gives}
use Rattle.mapping.specs.Homes.{home_of, is_given, has_home}
use Rattle.free_table.specs.Table.{usable, any_low}
use Rattle.free_table.specs.Choosing.{chosen}
use Rattle.free_table.proofs.ChoosingLaws.{chosen_none, chosen_same}
use Rattle.growth_rules.specs.Parts.{fresh_id}
use Rattle.growth_rules.specs.Steps.{Call, Step, stays, lacks, changes, step_after, choosing, held_step, spill_step}
use Rattle.growth_rules.specs.Steps.{low_step}
use Rattle.growth_rules.specs.Steps.{extension_step, step_on}
use Rattle.growth_rules.specs.Growing.{Effect, Outcome, highest_generation, step_of, grow_of}
use Rattle.growth_rules.specs.CallFacts.{Leaves, Changes}
use Rattle.growth_rules.specs.CallCases.{growth_refusals, Called, refused, unchanged, grown}
use Rattle.growth_rules.proofs.CallCases.{call_cases}

-- An accepted call gives one effect.
effect_same : (d e : Effect) → gives d ≡ gives e → d ≡ e
effect_same d e q = (answer_gives 0 d e q).1

-- A refused call gives one number.
refusal_same : (m n : ℕ) → ◌≡◌ {A = Answer Effect} (refuses m) (refuses n) → m ≡ n
refusal_same m n q = cc

module _ (l : Layout) (k : Call) where
  -- The laws are shown of each of the three cases that a call comes to, and then of the call.
  refused_leaves : {o : Outcome} → Called l k o → (n : ℕ) → o.answer ≡ refuses n → Leaves l k o
  refused_leaves (refused m e) n q = (refl, refl)
  refused_leaves unchanged n q = (refl, refl)
  refused_leaves (grown cs os g) n q = absurd (gives_or_refuses _ n q)

  -- "A refusal returns its number only; all lent memory keeps its bytes."
  pub refusal_leaves : (n : ℕ) → (grow_of l k).answer ≡ refuses n → Leaves l k (grow_of l k)
  refusal_leaves n e = refused_leaves (call_cases l k) n e

  refused_number : {o : Outcome} → Called l k o → (n : ℕ) → o.answer ≡ refuses n → elem eqb n growth_refusals ≡ true
  refused_number (refused m e) n q = rw (refusal_same n m (sym q)) e
  refused_number unchanged n q = absurd (gives_or_refuses _ n q)
  refused_number (grown cs os g) n q = absurd (gives_or_refuses _ n q)

  -- "Growth: 1, 10, 15 to 19."
  pub refusal_number : (n : ℕ) → (grow_of l k).answer ≡ refuses n → elem eqb n growth_refusals ≡ true
  refusal_number n e = refused_number (call_cases l k) n e

  -- No call is refused by 0.
  pub refused_some : (n : ℕ) → (grow_of l k).answer ≡ refuses n → 0 < n
  refused_some zero e = clash (refusal_number 0 e) refl
  refused_some (suc n) e = omega arith

  answered_home : {o : Outcome} → Called l k o → (e : Effect) → o.answer ≡ gives e
      → e.home ≡ is_given (home_of k.offset (view o.layout))
  unfolding has_home
  answered_home (refused n r) e q = absurd (gives_or_refuses e n (sym q))
  answered_home unchanged e q = sym (ap (λ (d : Effect). d.home) (effect_same _ e q))
  answered_home (grown cs os g) e q = sym (ap (λ (d : Effect). d.home) (effect_same _ e q))

  -- "The answer tells whether the offset now has a home".
  pub answer_home : (e : Effect) → (grow_of l k).answer ≡ gives e
      → e.home ≡ is_given (home_of k.offset (view (grow_of l k).layout))
  answer_home e q = answered_home (call_cases l k) e q

  unchanged_same : {o : Outcome} → Called l k o → (e : Effect) → o.answer ≡ gives e → e.changed ≡ false → Leaves l k o
  unchanged_same (refused n r) e q c = (refl, refl)
  unchanged_same unchanged e q c = (refl, refl)
  unchanged_same (grown cs os g) e q c = clash (sym (ap (λ (d : Effect). d.changed) (effect_same _ e q))) c

  -- An accepted call that says that nothing changed leaves the layout and the table.
  pub unchanged_leaves : (e : Effect) → (grow_of l k).answer ≡ gives e → e.changed ≡ false → Leaves l k (grow_of l k)
  unchanged_leaves e q c = unchanged_same (call_cases l k) e q c

  changed_by : {o : Outcome} → Called l k o → (e : Effect) → o.answer ≡ gives e → e.changed ≡ true → Changes l k o
  changed_by (refused n r) e q c = absurd (gives_or_refuses e n (sym q))
  changed_by unchanged e q c = clash c (sym (ap (λ (d : Effect). d.changed) (effect_same _ e q)))
  changed_by (grown cs os g) e q c = record { components = cs; objects = os; why = g; layout = refl; table = refl }

  -- An accepted call that says that the layout changed changes it by its step.
  pub changed_changes : (e : Effect) → (grow_of l k).answer ≡ gives e → e.changed ≡ true → Changes l k (grow_of l k)
  changed_changes e q c = changed_by (call_cases l k) e q c

  -- "Each change adds 1 to the generation."
  pub change_counted : (e : Effect) → (grow_of l k).answer ≡ gives e → e.changed ≡ true
      → (grow_of l k).layout.generation ≡ l.generation + 1
  change_counted e q c = ap (λ (after : Layout). after.generation) (changed_changes e q c).layout

  outcome_table : {o : Outcome} → Called l k o → (o.table ≡ k.table) ⊎ Changes l k o
  outcome_table (refused n r) = inl refl
  outcome_table unchanged = inl refl
  outcome_table (grown cs os g) = inr record { components = cs; objects = os; why = g; layout = refl; table = refl }

  -- The table after a call is the one that was given, or that of a change.
  pub call_table : ((grow_of l k).table ≡ k.table) ⊎ Changes l k (grow_of l k)
  call_table = outcome_table (call_cases l k)

  outcome_generation : {o : Outcome} → Called l k o → l.generation ≤ 4294967295 → o.layout.generation ≤ 4294967295
  outcome_generation (refused n r) h = h
  outcome_generation unchanged h = h
  outcome_generation (grown cs os g) h = omega (arith, eqb-false l.generation highest_generation g.below)

  -- The generation stays a 32-bit number.
  pub call_generation : l.generation ≤ 4294967295 → (grow_of l k).layout.generation ≤ 4294967295
  call_generation h = outcome_generation (call_cases l k) h

-- The objects of a step are chosen from the table of the call.
module _ (k : Call) where
  -- The object records os of a step are the first that may be chosen, as many as they are.
  abbrev Choice : Step → Type 0
  Choice stays = Unit {0}
  Choice lacks = Unit {0}
  Choice (changes cs os) = os ≡ chosen (usable k.mark) (length os) k.table

  -- If nothing is chosen.
  no_choice : [] ≡ chosen (usable k.mark) 0 k.table
  no_choice = sym (chosen_none (usable k.mark) k.table)

  -- A step after a component.
  after_choice : (c : Component) (s : Step) → Choice s → Choice (step_after c s)
  after_choice c stays h = tt
  after_choice c lacks h = tt
  after_choice c (changes cs os) h = h

  -- If object records are chosen, or something is done instead.
  choosing_choice : (s : ℕ) (made : List Object → List Component) (other : Step) → Choice other
      → Choice (choosing k s made other)
  unfolding choosing
  choosing_choice s made other h =
      cond_elim Choice (eqb (length (chosen (usable k.mark) s k.table)) s)
      (λ e. sym (chosen_same (usable k.mark) s k.table)) (λ e. h)

  -- If a component that is no extension holds the offset.
  held_choice : (c : Component) (cs : List Component) → Choice (held_step k c cs)
  unfolding held_step
  held_choice c cs = cond_elim Choice (c.init || c.extension) (λ e. tt) (λ e. choosing_choice c.stripe_count _ lacks tt)

  module _ (new : ℕ) where
    -- If the component before the extension that holds it has a low target,
    low_choice : (c x : Component) (cs : List Component) → Choice (low_step k new c x cs)
    unfolding low_step spill_step
    low_choice c x [] = choosing_choice c.stripe_count _ _ no_choice
    low_choice c x (n ∷ cs) =
        cond_elim Choice n.init (λ e. no_choice) (λ e. choosing_choice n.stripe_count _ lacks tt)

    -- if an extension holds the offset,
    extension_choice : (c x : Component) (cs : List Component) → Choice (extension_step k new c x cs)
    unfolding extension_step
    extension_choice c x cs =
        cond_elim Choice c.init
        (λ i. cond_elim Choice (any_low k.mark k.table (records_of c)) (λ e. low_choice c x cs) (λ e. no_choice))
        (λ i. choosing_choice c.stripe_count _ lacks tt)

    -- and of the whole step.
    step_choice : (cs : List Component) → Choice (step_on k new cs)
    unfolding step_on
    step_choice [] = tt
    step_choice (c ∷ []) = cond_elim Choice (holds c k.offset) (λ e. held_choice c []) (λ e. tt)
    step_choice (c ∷ x ∷ cs) =
        cond_elim Choice (holds c k.offset) (λ e. held_choice c (x ∷ cs))
        (λ e. cond_elim Choice (x.extension && holds x k.offset) (λ q. extension_choice c x cs)
        (λ q. after_choice c (step_on k new (x ∷ cs)) (step_choice (x ∷ cs))))

-- "Choosing S targets takes the S usable ones with the lowest targets, in that order, each with its next number": a
-- step takes its object records so, with S as many as they are.
pub step_chosen : (l : Layout) (k : Call) (cs : List Component) (os : List Object) → step_of l k ≡ changes cs os
    → os ≡ chosen (usable k.mark) (length os) k.table
step_chosen l k cs os e =
    let choice : Choice k (step_of l k) = step_choice k (fresh_id (ids_of (view l))) (view l) in
    rw e at choice
