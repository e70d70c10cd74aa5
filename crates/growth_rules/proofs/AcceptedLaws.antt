-- A call that is accepted and changes nothing: its offset has a home. So no growth accepts every call and does nothing.
-- What is in quotes is document 01's.
use Rattle.std.specs.Prelude.{ℕ, ◌<◌, ◌≡◌, true, false, ◌&&◌, ◌||◌, ltb, leb, eqb, length}
use Rattle.std.proofs.Math.Path.{sym}
use Rattle.std.proofs.Common.{ap, ◌∙◌, lt-ltb, leb-false}
use mathlib.Core.List.{List, [], ◌∷◌}
use Rattle.std.proofs.lemmas.Bool.{false≢true}
use Rattle.lists.specs.Bools.{cond_elim, bool_cases, clash, true_both}
use Rattle.layout.specs.declared.Object.{Object}
use Rattle.layout.specs.declared.Component.{Component}
use Rattle.layout.specs.declared.Layout.{Layout}
use Rattle.layout.specs.Records.{ids_of, records_of, records_in, view}
use Rattle.layout.specs.Rules.{valid}
use Rattle.layout.specs.Holder.{holds, covers, last_end}
use Rattle.layout.specs.Facts.{Linked}
use Rattle.layout.specs.FactLaws.{valid_facts}
use Rattle.layout.specs.HolderLaws.{covers_last}
use Rattle.mapping.specs.Answers.{gives, refuses}
use Rattle.mapping.specs.AnswerLaws.{gives_or_refuses, answer_gives}
use Rattle.mapping.specs.Homes.{init_at, in_init}
use Rattle.mapping.specs.HomeLaws.{has_home_lem}
use Rattle.free_table.specs.Table.{usable, any_low, table_ok}
use Rattle.free_table.specs.Choosing.{chosen}
use Rattle.growth_rules.specs.Parts.{fresh_id}
use Rattle.growth_rules.specs.Steps.{Call, Step, stays, lacks, changes, step_after, choosing, held_step, spill_step}
use Rattle.growth_rules.specs.Steps.{low_step}
use Rattle.growth_rules.specs.Steps.{extension_step, step_on}
use Rattle.growth_rules.specs.Growing.{Effect, Outcome, meets, highest_generation, step_of, outcome_of, grow_in}
use Rattle.growth_rules.specs.Growing.{grow_of}

module _ (k : Call) where
  -- If a step on the components cs changes nothing, the offset lies in an init component.
  abbrev InitIfStays : List Component → Step → Type 0
  InitIfStays cs stays = in_init k.offset cs ≡ true
  InitIfStays cs lacks = Unit {0}
  InitIfStays cs (changes t os) = Unit {0}

  -- With a component before them.
  after_init : (c : Component) (cs : List Component) (s : Step) → InitIfStays cs s
      → InitIfStays (c ∷ cs) (step_after c s)
  after_init c cs stays h = bool_cases (init_at k.offset c) (λ e. rw e) (λ e. rw e h)
  after_init c cs lacks h = tt
  after_init c cs (changes t os) h = tt

  -- A choice is a change, or what is done instead.
  choosing_init : (cs : List Component) (s : ℕ) (made : List Object → List Component) (other : Step)
      → InitIfStays cs other
      → InitIfStays cs (choosing k s made other)
  unfolding choosing
  choosing_init cs s made other h =
      cond_elim (InitIfStays cs) (eqb (length (chosen (usable k.mark) s k.table)) s) (λ e. tt) (λ e. h)

  -- A component that is no extension and holds the offset: "Init: no change, accepted."
  held_init : (c : Component) (cs : List Component) → holds c k.offset ≡ true → c.extension ≡ false
      → InitIfStays (c ∷ cs) (held_step k c cs)
  unfolding held_step
  held_init c cs h x =
      cond_elim (InitIfStays (c ∷ cs)) (c.init || c.extension)
      (λ e. bool_cases (init_at k.offset c) (λ i. rw i)
      (λ i. bool_cases c.init (λ q. clash (true_both q h) i) (λ q. absurd (false≢true (rw (q, x) at e)))))
      (λ e. choosing_init (c ∷ cs) c.stripe_count _ lacks tt)

  module _ (new : ℕ) where
    -- An extension that holds it: each step is a change, or lacks targets.
    low_init : (u : List Component) (c x : Component) (cs : List Component) → InitIfStays u (low_step k new c x cs)
    unfolding low_step spill_step
    low_init u c x [] = choosing_init u c.stripe_count _ _ tt
    low_init u c x (n ∷ cs) =
        cond_elim (InitIfStays u) n.init (λ e. tt) (λ e. choosing_init u n.stripe_count _ lacks tt)

    extension_init : (u : List Component) (c x : Component) (cs : List Component)
        → InitIfStays u (extension_step k new c x cs)
    unfolding extension_step
    extension_init u c x cs =
        cond_elim (InitIfStays u) c.init
        (λ i. cond_elim (InitIfStays u) (any_low k.mark k.table (records_of c)) (λ e. low_init u c x cs) (λ e. tt))
        (λ i. choosing_init u c.stripe_count _ lacks tt)

    -- The first component is no extension that holds the offset.
    abbrev NoneFirst : List Component → Type 0
    NoneFirst [] = Unit {0}
    NoneFirst (c ∷ cs) = (c.extension && holds c k.offset) ≡ false

    plain : (c : Component) → holds c k.offset ≡ true → (c.extension && holds c k.offset) ≡ false → c.extension ≡ false
    plain c h n = bool_cases c.extension (λ e. clash (true_both e h) n) (λ e. e)

    -- So it is of every step, if a component holds the offset.
    step_init : (cs : List Component) → NoneFirst cs → covers cs k.offset ≡ true → InitIfStays cs (step_on k new cs)
    unfolding step_on
    step_init [] n e = absurd (false≢true e)
    step_init (c ∷ []) n e =
        cond_elim (InitIfStays (c ∷ [])) (holds c k.offset) (λ h. held_init c [] h (plain c h n))
        (λ h. absurd (false≢true (rw h at e)))
    step_init (c ∷ x ∷ cs) n e =
        cond_elim (InitIfStays (c ∷ x ∷ cs)) (holds c k.offset) (λ h. held_init c (x ∷ cs) h (plain c h n))
        (λ h. cond_elim (InitIfStays (c ∷ x ∷ cs)) (x.extension && holds x k.offset)
        (λ q. extension_init (c ∷ x ∷ cs) c x cs)
        (λ q. after_init c (x ∷ cs) (step_on k new (x ∷ cs)) (step_init (x ∷ cs) q (rw h at e))))

module _ (l : Layout) (k : Call) where
  -- If the outcome says that nothing changed, it says that the offset has a home.
  abbrev HomeIfSame : Outcome → Type 0
  HomeIfSame o = (e : Effect) → o.answer ≡ gives e → e.changed ≡ false → e.home ≡ true

  -- A refusal says neither.
  refused_home : (n : ℕ) (e : Effect) → refuses n ≡ gives e → e.changed ≡ false → e.home ≡ true
  refused_home n e q c = absurd (gives_or_refuses e n (sym q))

  -- In a valid layout that covers the offset, a step that changes nothing is made where the offset lies in an init
  -- component.
  stay_init : valid l ≡ true → leb (last_end (view l)) k.offset ≡ false → InitIfStays k (view l) (step_of l k)
  stay_init v below =
      let ks = (valid_facts l v).keeps in
      let h : k.offset < last_end (view l) = leb-false (last_end (view l)) k.offset below in
      let covered = covers_last false (view l) ks.linked ks.fields k.offset ∙ lt-ltb k.offset (last_end (view l)) h in
      step_init k (fresh_id (ids_of (view l))) (view l) (first (view l) ks.linked) covered
    where
      first : (cs : List Component) → Linked false 0 false cs → NoneFirst k (fresh_id (ids_of (view l))) cs
      first [] n = tt
      first (c ∷ cs) n = bool_cases c.extension (λ e. absurd (false≢true (n.1 e))) (λ e. rw e)

  -- What a step gives.
  outcome_home : (s : Step) → InitIfStays k (view l) s → HomeIfSame (outcome_of l k s)
  unfolding outcome_of
  outcome_home stays h e q c = sym (ap (λ (d : Effect). d.home) (answer_gives 0 _ e q).1)
      ∙ has_home_lem k.offset (view l) ∙ h
  outcome_home lacks h e q c = refused_home 16 e q c
  outcome_home (changes cs os) h e q c =
      bool_cases (ltb 16 (length cs)) (λ t. refused_home 17 e (rw t at q) c)
      (λ few. bool_cases (meets os (records_in (view l))) (λ t. refused_home 18 e (rw (few, t) at q) c)
      (λ apart. bool_cases (eqb l.generation highest_generation) (λ t. refused_home 19 e (rw (few, apart, t) at q) c)
      (λ below. let same = (answer_gives 0 _ e (rw (few, apart, below) at q)).1 in
      clash (sym (ap (λ (d : Effect). d.changed) same)) c)))

  -- "Init: no change, accepted.": an accepted call that says that nothing changed says that the offset has a home.
  pub unchanged_home : HomeIfSame (grow_of l k)
  unfolding grow_of grow_in
  unchanged_home e q c =
      bool_cases (valid l)
      (λ v. bool_cases (leb (last_end (view l)) k.offset) (λ t. refused_home 10 e (rw (v, t) at q) c)
      (λ below. bool_cases (table_ok k.table)
      (λ t. outcome_home (step_of l k) (stay_init v below) e (rw (v, below, t) at q) c)
      (λ t. refused_home 15 e (rw (v, below, t) at q) c)))
      (λ v. refused_home 1 e (rw v at q) c)
