-- The plans that the code makes say what the definitions of the steps say.
use Rattle.std.specs.Prelude.{ℕ, ◌+◌, ◌≤◌, ◌≡◌, Some, None, Result, Bool, ◌||◌, eqb, take, drop}
use Rattle.refusals.specs.declared.Refusal.{Refusal}
use Rattle.std.proofs.Math.Path.{refl, sym, ap}
use Rattle.std.proofs.Common.{◌∙◌, arith, add-zero}
use mathlib.Core.List.{List, [], ◌∷◌, ◌++◌, append_assoc}
use Rattle.std.proofs.Math.Bool.{true, false, cond}
use Rattle.std.proofs.Math.ListN.{length, length-append}
use Rattle.std.proofs.Math.Seq.{take-append-add, drop-append-add}
use Rattle.lists.specs.Bools.{bool_cases}
use Rattle.layout.specs.declared.Object.{Object}
use Rattle.layout.specs.declared.Component.{Component}
use Rattle.layout.specs.Records.{records_of}
use Rattle.layout.specs.RecordLaws.{records_pack}
use Rattle.free_table.specs.Table.{any_low, usable}
use Rattle.free_table.specs.Choosing.{chosen}
use Rattle.free_table.proofs.ChoosingLaws.{chosen_few}
use Rattle.growth_rules.specs.Parts.{with_extent, made_init, repeat_base, repeat_of, reach, leaving, following}
use Rattle.growth_rules.specs.Parts.{granting as granted}
use Rattle.growth_rules.specs.Steps.{Call, Step, lacks, changes, choosing, held_step, spill_step, low_step, extension_step}
use Rattle.growth_rules.specs.StepLaws.{step_after_all, after_changes, after_stays, after_lacks}
use Rattle.growth.specs.declared.Change.{Change}
use Rattle.growth.specs.Plans.{with_left, replacement, planned, Plan, change_plan, plan_of, plan_says, replacing, granting, on_objects, PlanWithin}
use Rattle.growth.specs.Plans.{choosing_plan, held_plan, follow_plan, spill_plan, repeat_plan, low_plan, extension_plan}

-- Of the components cs after others, a plan says the step s after those others, and its own are among them all.
pub record Means (before cs : List Component) (p : Plan) (s : Step) : Type 0 where
  pub says : plan_says p (before ++ cs) ≡ step_after_all before s
  pub within : PlanWithin p (length (before ++ cs))

-- By a test: each of two plans says a step after the same components.
by_test : {before cs : List Component} (t : Bool) (p q : Result Change Refusal) {s r : Step}
    → (t ≡ true → Means before cs (plan_of p) s) → (t ≡ false → Means before cs (plan_of q) r)
    → Means before cs (plan_of (cond t p q)) (cond t s r)
by_test true p q f g = f refl
by_test false p q f g = g refl

-- What a change makes of components after others.
planned_after : (p : Change) (before cs : List Component) (a : ℕ) → p.at ≡ length before + a
    → planned p (before ++ cs) ≡ before ++ (take a cs ++ replacement p (drop p.old (drop a cs)))
planned_after p before cs a e =
    rw (e, take-append-add before cs a, drop-append-add before cs a)
    (append_assoc before (take a cs) (replacement p (drop p.old (drop a cs))))

-- An extension is there exactly if it has bytes left.
left_over : (t : Bool) (x : Component) (cs : List Component) → with_left (cond t None (Some x)) cs ≡ cond t cs (x ∷ cs)
left_over true x cs = refl
left_over false x cs = refl

-- What a grant puts there, on chosen object records too (for c made init on them).
granting_replaces : (at old from : ℕ) (c x : Component) (cs : List Component)
    → replacement (granting at old c x from) cs ≡ with_extent c.begin (reach from x) c ∷ leaving (reach from x) x cs
unfolding leaving
granting_replaces at old from c x cs =
    ap (λ (l : List Component). with_extent c.begin (reach from x) c ∷ l)
    (left_over (eqb (reach from x) x.end) (with_extent (reach from x) x.end x) cs)

module _ (k : Call) where
  -- Choosing after other components.
  after_choosing : (before : List Component) (s : ℕ) (made : List Object → List Component) (other : Step)
      → step_after_all before (choosing k s made other) ≡ choosing k s (λ os. before ++ made os) (step_after_all before other)
  unfolding choosing
  after_choosing before s made other =
      bool_cases (eqb (length (chosen (usable k.mark) s k.table)) s)
      (λ e. rw e (after_changes before (made (chosen (usable k.mark) s k.table)) (chosen (usable k.mark) s k.table)))
      (λ e. rw e)

  -- Choosing gives the same if the same is made of the chosen object records.
  same_choosing : (s : ℕ) (made made' : List Object → List Component) (other : Step)
      → ((os : List Object) → made os ≡ made' os) → choosing k s made other ≡ choosing k s made' other
  unfolding choosing
  same_choosing s made made' other e =
      let os = chosen (usable k.mark) s k.table in
      ap (λ (cs : List Component). cond (eqb (length os) s) (changes cs os) other) (e os)

  -- A change, with targets chosen for the component that it makes.
  choosing_means : (p : Change) (cs : List Component) → p.made.stripe_count ≤ 16 → p.at + p.old ≤ length cs
      → Means [] cs (plan_of (choosing_plan k.mark k.table p))
      (choosing k p.made.stripe_count (λ os. planned (on_objects p os) cs) lacks)
  unfolding choosing_plan choosing plan_says
  choosing_means p cs h w =
      let s = p.made.stripe_count in
      let os = chosen (usable k.mark) s k.table in
      let few = chosen_few (usable k.mark) s k.table in
      bool_cases (eqb (length os) s)
      (λ e. record {
        says = rw (e, records_pack os (omega arith));
        within = rw e record { within = w; few = omega arith; counted = ap length (records_pack os (omega arith)) };
      })
      (λ e. record { says = rw e; within = rw e refl })

  -- The same, if the change is after other components and makes what a step makes of the chosen object records.
  choosing_after : (p : Change) (before cs : List Component) → p.made.stripe_count ≤ 16 → p.at + p.old ≤ length (before ++ cs) → (made : List Object → List Component)
      → ((os : List Object) → planned (on_objects p os) (before ++ cs) ≡ before ++ made os)
      → Means before cs (plan_of (choosing_plan k.mark k.table p)) (choosing k p.made.stripe_count made lacks)
  choosing_after p before cs h w made e =
      let m = choosing_means p (before ++ cs) h w in
      let s = p.made.stripe_count in
      record {
        says =
            m.says
            ∙ same_choosing s (λ os. planned (on_objects p os) (before ++ cs)) (λ os. before ++ made os) lacks e
            ∙ sym (after_choosing before s made lacks ∙ ap (choosing k s (λ os. before ++ made os)) (after_lacks before));
        within = m.within;
      }

  module _ (before : List Component) (j : ℕ) (place : j ≡ length before) where
    -- The component c after others holds the offset.
    pub held_means : (c : Component) (cs : List Component) → c.stripe_count ≤ 16
        → Means before (c ∷ cs) (held_plan k.mark k.table j c) (held_step k c cs)
    unfolding held_plan held_step plan_says
    held_means c cs h =
        bool_cases (c.init || c.extension)
        (λ e. rw e record { says = sym (after_stays before); within = tt })
        (λ e. rw e
        (choosing_after (replacing j 1 c) before (c ∷ cs) h
        (omega (arith, length-append before (c ∷ cs))) (λ os. made_init os c ∷ cs)
        (λ os. planned_after (on_objects (replacing j 1 c) os) before (c ∷ cs) 0 (place ∙ sym (add-zero (length before))))))

    -- The position of the component directly after.
    next_place : j + 1 ≡ length before + 1
    next_place = rw place

    module _ (c x : Component) where
      -- A grant to c from the extension x directly after it,
      grant_planned : (cs : List Component) → planned (granting j 2 c x x.begin) (before ++ (c ∷ x ∷ cs)) ≡ before ++ granted c x cs
      unfolding granted
      grant_planned cs =
          planned_after (granting j 2 c x x.begin) before (c ∷ x ∷ cs) 0 (place ∙ sym (add-zero (length before)))
          ∙ ap (λ (l : List Component). before ++ l) (granting_replaces j 2 x.begin c x cs)

      pub grant_means : (cs : List Component) → Means before (c ∷ x ∷ cs) (change_plan (granting j 2 c x x.begin))
          (changes (granted c x cs) [])
      unfolding plan_says
      grant_means cs =
          record {
            says = rw (grant_planned cs) (sym (after_changes before (granted c x cs) []));
            within = record { within = omega (arith, length-append before (c ∷ x ∷ cs)); few = omega arith; counted = refl };
          }

      -- and if targets are chosen for c.
      pub init_means : (cs : List Component) → c.stripe_count ≤ 16
          → Means before (c ∷ x ∷ cs) (plan_of (choosing_plan k.mark k.table (granting j 2 c x x.begin)))
          (choosing k c.stripe_count (λ os. granted (made_init os c) x cs) lacks)
      unfolding granted
      init_means cs h =
          choosing_after (granting j 2 c x x.begin) before (c ∷ x ∷ cs) h
          (omega (arith, length-append before (c ∷ x ∷ cs))) (λ os. granted (made_init os c) x cs)
          (λ os. planned_after (on_objects (granting j 2 c x x.begin) os) before (c ∷ x ∷ cs) 0 (place ∙ sym (add-zero (length before)))
          ∙ ap (λ (l : List Component). before ++ l) (granting_replaces j 2 x.begin (made_init os c) x cs))

      -- Spill-over onto an init component,
      onto_init : (n : Component) (cs : List Component) → Means before (c ∷ x ∷ n ∷ cs)
          (change_plan (replacing (j + 1) 2 (with_extent x.begin n.end n)))
          (changes (c ∷ with_extent x.begin n.end n ∷ cs) [])
      unfolding plan_says
      onto_init n cs =
          let p = replacing (j + 1) 2 (with_extent x.begin n.end n) in
          record {
            says =
                rw (planned_after p before (c ∷ x ∷ n ∷ cs) 1 next_place)
                (sym (after_changes before (c ∷ with_extent x.begin n.end n ∷ cs) []));
            within = record { within = omega (arith, length-append before (c ∷ x ∷ n ∷ cs)); few = omega arith; counted = refl };
          }

      -- onto one that is chosen for, if no extension follows it,
      onto_bare : (n : Component) (cs : List Component) → n.stripe_count ≤ 16 → Means before (c ∷ x ∷ n ∷ cs)
          (plan_of (choosing_plan k.mark k.table (replacing (j + 1) 2 (with_extent x.begin n.end n))))
          (choosing k n.stripe_count (λ os. c ∷ with_extent x.begin n.end (made_init os n) ∷ cs) lacks)
      onto_bare n cs h =
          let p = replacing (j + 1) 2 (with_extent x.begin n.end n) in
          choosing_after p before (c ∷ x ∷ n ∷ cs) h (omega (arith, length-append before (c ∷ x ∷ n ∷ cs)))
          (λ os. c ∷ with_extent x.begin n.end (made_init os n) ∷ cs)
          (λ os. planned_after (on_objects p os) before (c ∷ x ∷ n ∷ cs) 1 next_place)

      -- and if the extension y follows it.
      onto_extended : (n y : Component) (cs : List Component) → n.stripe_count ≤ 16 → Means before (c ∷ x ∷ n ∷ y ∷ cs)
          (plan_of (choosing_plan k.mark k.table (granting (j + 1) 3 (with_extent x.begin n.end n) y x.begin)))
          (choosing k n.stripe_count
          (λ os. c ∷ with_extent x.begin (reach x.begin y) (made_init os n) ∷ leaving (reach x.begin y) y cs) lacks)
      onto_extended n y cs h =
          let m = with_extent x.begin n.end n in
          let p = granting (j + 1) 3 m y x.begin in
          choosing_after p before (c ∷ x ∷ n ∷ y ∷ cs) h (omega (arith, length-append before (c ∷ x ∷ n ∷ y ∷ cs)))
          (λ os. c ∷ with_extent x.begin (reach x.begin y) (made_init os n) ∷ leaving (reach x.begin y) y cs)
          (λ os. planned_after (on_objects p os) before (c ∷ x ∷ n ∷ y ∷ cs) 1 next_place
          ∙ ap (λ (l : List Component). before ++ (c ∷ l)) (granting_replaces (j + 1) 3 x.begin (made_init os m) y cs))

      -- A component that is chosen for, if t says that the extension y follows it.
      followed_means : (n y : Component) (cs : List Component) → n.stripe_count ≤ 16 → (t : Bool)
          → let m = with_extent x.begin n.end n in Means before (c ∷ x ∷ n ∷ y ∷ cs)
          (plan_of (choosing_plan k.mark k.table (cond t (granting (j + 1) 3 m y x.begin) (replacing (j + 1) 2 m))))
          (choosing k n.stripe_count
          (λ os. c
          ∷ cond t (with_extent x.begin (reach x.begin y) (made_init os n) ∷ leaving (reach x.begin y) y cs)
          (with_extent x.begin n.end (made_init os n) ∷ y ∷ cs)) lacks)
      followed_means n y cs h true = onto_extended n y cs h
      followed_means n y cs h false = onto_bare n (y ∷ cs) h

      -- Spill-over.
      spill_means : (n : Component) (cs : List Component) → n.stripe_count ≤ 16
          → Means before (c ∷ x ∷ n ∷ cs) (plan_of (spill_plan k.mark k.table j x n cs)) (spill_step k c x n cs)
      unfolding spill_plan spill_step follow_plan following
      spill_means n [] h = by_test n.init _ _ (λ i. onto_init n []) (λ i. onto_bare n [] h)
      spill_means n (y ∷ cs) h =
          by_test n.init _ _ (λ i. onto_init n (y ∷ cs)) (λ i. followed_means n y cs h y.extension)

      -- Repeat, or forced extension.
      repeat_means : (new : ℕ) → c.stripe_count ≤ 16
          → Means before (c ∷ x ∷ []) (change_plan (repeat_plan k.mark k.table new j c x)) (low_step k new c x [])
      unfolding repeat_plan choosing_plan low_step choosing plan_says
      repeat_means new h =
          let s = c.stripe_count in
          let os = chosen (usable k.mark) s k.table in
          let few : length os ≤ 16 = omega (arith, chosen_few (usable k.mark) s k.table) in
          let q = granting (j + 1) 1 (repeat_base new x.begin c) x x.begin in
          let e = reach x.begin x in
          let made = c ∷ repeat_of new c x.begin e os ∷ leaving e x [] in
          bool_cases (eqb (length os) s)
          (λ t. rw t
          record {
            says =
                rw (
                  planned_after (on_objects q os) before (c ∷ x ∷ []) 1 next_place,
                  granting_replaces (j + 1) 1 x.begin (made_init os (repeat_base new x.begin c)) x [],
                  records_pack os few,
                ) (sym (after_changes before made os));
            within =
                record {
                  within = omega (arith, length-append before (c ∷ x ∷ []));
                  few = few;
                  counted = ap length (records_pack os few);
                };
          })
          (λ t. rw t (grant_means []))

      -- A target of c is low.
      low_means : (new : ℕ) (cs : List Component) → c.stripe_count ≤ 16
          → ((n : Component) (rest : List Component) → cs ≡ n ∷ rest → n.stripe_count ≤ 16)
          → Means before (c ∷ x ∷ cs) (plan_of (low_plan k.mark k.table new j c x cs)) (low_step k new c x cs)
      unfolding low_plan low_step
      low_means new [] h f = repeat_means new h
      low_means new (n ∷ cs) h f = spill_means n cs (f n cs refl)

      -- The extension x holds the offset.
      pub extension_means : (new : ℕ) (cs : List Component) → c.stripe_count ≤ 16
          → ((n : Component) (rest : List Component) → cs ≡ n ∷ rest → n.stripe_count ≤ 16)
          → Means before (c ∷ x ∷ cs) (extension_plan k.mark k.table new j (c ∷ x ∷ cs))
          (extension_step k new c x cs)
      unfolding extension_plan extension_step
      extension_means new cs h f =
          by_test c.init _ _
          (λ i. by_test (any_low k.mark k.table (records_of c)) _ _ (λ e. low_means new cs h f) (λ e. grant_means cs))
          (λ i. init_means cs h)
