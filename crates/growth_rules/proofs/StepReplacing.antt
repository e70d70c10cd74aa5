-- Every step of growth keeps what a step keeps, case by case.
use Rattle.std.specs.Prelude.{ℕ, ◌≤◌, ◌<◌, ◌≡◌, Bool, true, false, not, ◌&&◌, ◌||◌, ltb, leb, eqb, length}
use Rattle.std.proofs.Math.Path.{refl}
use mathlib.Core.List.{List, [], ◌∷◌}
use native.Mathlib.Omega.{arith}
use Rattle.std.proofs.Common.{ltb-true, leb-true, eqb-true}
use Rattle.std.proofs.lemmas.Bool.{not-true}
use Rattle.lists.specs.Bools.{cond_elim, clash, both_true, both_false}
use Rattle.lists.specs.Counting.{count}
use Rattle.layout.specs.declared.Object.{Object}
use Rattle.layout.specs.declared.Component.{Component}
use Rattle.layout.specs.Records.{records_of}
use Rattle.layout.specs.Distinct.{same_object}
use Rattle.layout.specs.Holder.{holds}
use Rattle.layout.specs.Facts.{IsExtension, Fields, Linked}
use Rattle.layout.specs.FactLaws.{kind_ordered, kind_init, kind_extension}
use Rattle.free_table.specs.Table.{usable, table_ok, any_low}
use Rattle.free_table.specs.Choosing.{chosen}
use Rattle.free_table.proofs.ChoosingLaws.{table_facts, chosen_targets, chosen_once}
use Rattle.growth_rules.specs.Parts.{made_init, repeat_of, reach, leaving, granting}
use Rattle.growth_rules.specs.Steps.{Call, Step, stays, lacks, changes, step_after, choosing, held_step, spill_step}
use Rattle.growth_rules.specs.Steps.{low_step}
use Rattle.growth_rules.specs.Steps.{extension_step, step_on}
use Rattle.growth_rules.specs.Replacing.{Replaced, Chosen, Changed, StepKeeps}
use Rattle.growth_rules.specs.ReplacingLaws.{replaced_same, replaced_new, replaced_after, replaced_gone}
use Rattle.growth_rules.specs.ReplacingLaws.{replaced_renewed, replaced_added}
use Rattle.growth_rules.specs.ReplacingLaws.{replaced_leaving}
use Rattle.growth_rules.specs.RenewingLaws.{init_renewed, bare_renewed, repeat_init, repeat_records}
use Rattle.growth_rules.proofs.PartReplacing.{kind_bare, granting_replaced, following_replaced, following_some}

-- A component that holds a byte is not empty.
holds_some : (c : Component) (b : ℕ) → holds c b ≡ true → c.begin < c.end
holds_some c b e =
    let p = both_true (leb c.begin b) (ltb b c.end) e in
    omega (arith, leb-true c.begin b p.0, ltb-true b c.end p.1)

-- The table of the call is not bad, and the id of a new component is at least 1.
module _ (k : Call) (new : ℕ) (table : table_ok k.table ≡ true) (one : 1 ≤ new) where
  -- As many object records as were asked for are chosen for that many stripes.
  chosen_facts : (s : ℕ) → length (chosen (usable k.mark) s k.table) ≡ s → Chosen s (chosen (usable k.mark) s k.table)
  chosen_facts s e =
      let rises = (table_facts k.table table).1 in
      record {
        enough = e;
        targets = chosen_targets (usable k.mark) 0 s k.table rises;
        once = chosen_once (usable k.mark) 0 s k.table rises;
      }

  module _ (at : ℕ) (may : Bool) where
    -- A choice keeps it if what is made of the chosen records does, and what is done instead of a choice does too.
    choosing_keeps : (t : List Component) (s : ℕ) (made : List Object → List Component) (other : Step)
        → ((os : List Object) → Chosen s os → Changed new at may t (made os) os) → StepKeeps new at may t other
        → StepKeeps new at may t (choosing k s made other)
    unfolding choosing
    choosing_keeps t s made other keeps otherwise =
        let os = chosen (usable k.mark) s k.table in
        cond_elim (StepKeeps new at may t) (eqb (length os) s)
        (λ e. keeps os (chosen_facts s (eqb-true (length os) s e)))
        (λ e. otherwise)

    -- The component c holds the offset.
    held_keeps : (c : Component) (t : List Component) → Fields (c ∷ t) → Linked false at may (c ∷ t) → c.begin < c.end
        → StepKeeps new at may (c ∷ t) (held_step k c t)
    unfolding held_step
    held_keeps c t f l h =
        cond_elim (StepKeeps new at may (c ∷ t)) (c.init || c.extension) (λ e. tt)
        (λ e. let p = both_false c.init c.extension e in
        choosing_keeps (c ∷ t) c.stripe_count _ lacks
        (λ os ch. record {
          some = omega arith;
          first = refl;
          once = ch.once;
          replaced = replaced_new new
              (replaced_renewed c (made_init os c) t f (bare_renewed c c.begin c.end os (kind_bare f.1 p.0 p.1) ch h)
              l.0 (λ i. clash i p.0) (replaced_same c.end (not c.extension) t f.2 l.3));
        })
        tt)

    -- The extension x directly after the component c.
    module _ (c x : Component) (is : IsExtension x) where
      -- A grant to c, which is init.
      granting_keeps : (t : List Component) → Fields (c ∷ x ∷ t) → Linked false at may (c ∷ x ∷ t) → c.init ≡ true
          → Changed new at may (c ∷ x ∷ t) (granting c x t) []
      unfolding granting
      granting_keeps t f l i = record {
        some = omega arith;
        first = refl;
        once = λ o. omega arith;
        replaced = replaced_new new
            (granting_replaced c c x t f l is refl (λ h. init_renewed c c.begin (reach x.begin x) (kind_init f.1 i) h));
      }

      -- After c, which is init and stays.
      after_init : (t t' : List Component) (os : List Object) → Fields (c ∷ x ∷ t) → Linked false at may (c ∷ x ∷ t)
          → c.init ≡ true → 1 ≤ length t' → ((o : Object) → count same_object o os ≤ 1)
          → Replaced c.end c.end (not c.extension) (x ∷ t) t' os (new ∷ []) → Changed new at may (c ∷ x ∷ t) (c ∷ t') os
      after_init t t' os f l i filled once replaced = record {
        some = omega arith;
        first = refl;
        once = once;
        replaced = replaced_after c (x ∷ t) f l filled (λ q. clash i q) replaced;
      }

      -- Spill-over, if c has a low target and n is after x.
      spill_keeps : (n : Component) (t : List Component) → Fields (c ∷ x ∷ n ∷ t) → Linked false at may (c ∷ x ∷ n ∷ t)
          → c.init ≡ true → StepKeeps new at may (c ∷ x ∷ n ∷ t) (spill_step k c x n t)
      unfolding spill_step
      spill_keeps n t f l i =
          let extent = is.extent in
          let joined = l.3.0 in
          let ended = l.3.3.0 in
          let ordered = kind_ordered f.2.2.1 in
          cond_elim (StepKeeps new at may (c ∷ x ∷ n ∷ t)) n.init
          (λ q. let kind = kind_init f.2.2.1 q in
          after_init (n ∷ t) _ [] f l i (omega arith) (λ o. omega arith)
          (replaced_new new
          (replaced_gone x is
          (replaced_renewed n _ t f.2.2 (init_renewed n _ _ kind (omega arith)) (omega arith)
          (λ e. (omega arith, omega arith))
          (replaced_same n.end (not n.extension) t f.2.2.2 l.3.3.3)))))
          (λ q. choosing_keeps (c ∷ x ∷ n ∷ t) n.stripe_count _ lacks
          (λ os ch. after_init (n ∷ t) _ os f l i (following_some x.begin (made_init os n) t) ch.once
          (replaced_new new (following_replaced x n t os f.2 l.3 is q ch)))
          tt)

      -- Repeat, if x is last.
      repeat_keeps : (os : List Object) → Fields (c ∷ x ∷ []) → Linked false at may (c ∷ x ∷ [])
          → c.init ≡ true → Chosen c.stripe_count os → Changed new at may (c ∷ x ∷ [])
          (c ∷ repeat_of new c x.begin (reach x.begin x) os ∷ leaving (reach x.begin x) x []) os
      repeat_keeps os f l i ch =
          let r = reach x.begin x in
          let size = is.size.nonzero in
          let extent = is.extent in
          let kind = kind_init f.1 i in
          after_init [] (repeat_of new c x.begin r os ∷ leaving r x []) os f l i (omega arith) ch.once
          (replaced_added (repeat_of new c x.begin r os) (repeat_init new c x.begin r os kind ch (omega arith))
          (repeat_records new c x.begin r os kind ch) one l.3.0
          (replaced_leaving c.end r (not c.extension) x [] f.2 l.3 is (omega arith)))

      -- The component c has a low target.
      low_keeps : (t : List Component) → Fields (c ∷ x ∷ t) → Linked false at may (c ∷ x ∷ t) → c.init ≡ true
          → StepKeeps new at may (c ∷ x ∷ t) (low_step k new c x t)
      unfolding low_step
      low_keeps [] f l i =
          choosing_keeps (c ∷ x ∷ []) c.stripe_count _ (changes (granting c x []) [])
          (λ os ch. repeat_keeps os f l i ch)
          (granting_keeps [] f l i)
      low_keeps (n ∷ t) f l i = spill_keeps n t f l i

      -- The extension x holds the offset.
      extension_keeps : (t : List Component) → Fields (c ∷ x ∷ t) → Linked false at may (c ∷ x ∷ t)
          → StepKeeps new at may (c ∷ x ∷ t) (extension_step k new c x t)
      unfolding extension_step granting
      extension_keeps t f l =
          cond_elim (StepKeeps new at may (c ∷ x ∷ t)) c.init
          (λ i. cond_elim (StepKeeps new at may (c ∷ x ∷ t)) (any_low k.mark k.table (records_of c))
          (λ e. low_keeps t f l i)
          (λ e. granting_keeps t f l i))
          (λ i. choosing_keeps (c ∷ x ∷ t) c.stripe_count _ lacks
          (λ os ch. let bare = kind_bare f.1 i (not-true c.extension (l.3.1 is.extension)) in
          record {
            some = omega arith;
            first = refl;
            once = ch.once;
            replaced = replaced_new new
                (granting_replaced c (made_init os c) x t f l is refl
                (λ h. bare_renewed c c.begin (reach x.begin x) os bare ch h));
          })
          tt)

  -- A step after a component.
  after_keeps : {at : ℕ} {may : Bool} (c x : Component) (t : List Component) → Fields (c ∷ x ∷ t)
      → Linked false at may (c ∷ x ∷ t) → (s : Step)
      → StepKeeps new c.end (not c.extension) (x ∷ t) s → StepKeeps new at may (c ∷ x ∷ t) (step_after c s)
  after_keeps c x t f l stays replaced = tt
  after_keeps c x t f l lacks replaced = tt
  after_keeps c x t f l (changes t' os) replaced = record {
    some = omega arith;
    first = refl;
    once = replaced.once;
    replaced = replaced_after c (x ∷ t) f l replaced.some (λ i. replaced.first) replaced.replaced;
  }

  -- The step of a call keeps what a step keeps.
  pub step_keeps : (at : ℕ) (may : Bool) (t : List Component) → Fields t → Linked false at may t
      → StepKeeps new at may t (step_on k new t)
  unfolding step_on
  step_keeps at may [] f l = tt
  step_keeps at may (c ∷ []) f l =
      cond_elim (StepKeeps new at may (c ∷ [])) (holds c k.offset)
      (λ e. held_keeps at may c [] f l (holds_some c k.offset e)) (λ e. tt)
  step_keeps at may (c ∷ x ∷ t) f l =
      cond_elim (StepKeeps new at may (c ∷ x ∷ t)) (holds c k.offset)
      (λ e. held_keeps at may c (x ∷ t) f l (holds_some c k.offset e))
      (λ e. cond_elim (StepKeeps new at may (c ∷ x ∷ t)) (x.extension && holds x k.offset)
      (λ q. extension_keeps at may c x (kind_extension f.2.1 (both_true x.extension (holds x k.offset) q).0) t f l)
      (λ q. after_keeps c x t f l (step_on k new (x ∷ t)) (step_keeps c.end (not c.extension) (x ∷ t) f.2 l.3)))
