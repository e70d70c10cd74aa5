-- What the step of a call gives, by the number of the refusal of its change.
use Rattle.std.specs.Prelude.{ℕ, ◌+◌, ◌≤◌, ◌≡◌, refl, List, Bool, true, false, ltb, leb, eqb, length, Some, None, Ok, Err}
use Rattle.std.proofs.Math.Path.{ap}
use Rattle.std.proofs.Common.{◌∙◌, arith}
use Rattle.std.proofs.Math.Bool.{cond}
use borrow.Author.Tests.{ltb-false, eqb-false}
use Rattle.refusals.specs.declared.Refusal.{Refusal}
use Rattle.layout.specs.declared.Object.{Object}
use Rattle.layout.specs.declared.Component.{Component}
use Rattle.layout.specs.declared.Layout.{Layout}
use Rattle.layout.specs.Records.{records_in, view, packed}
use Rattle.layout.specs.Rules.{valid}
use Rattle.layout.specs.Holder.{last_end}
use Rattle.free_table.specs.Table.{usable, table_ok}
use Rattle.free_table.specs.Choosing.{raised_first}
use Rattle.growth_rules.specs.Steps.{Call, stays, lacks, changes}
use Rattle.growth_rules.specs.Growing.{Outcome, meets, step_of, refusing, accepting, outcome_of, grow_in, grow_of}
use Rattle.growth.specs.declared.Change.{Change}
use Rattle.growth.specs.Plans.{Plan, planned, planned_objects, plan_says, change_refusal}

-- What a plan says, case by case: it is refused, it changes nothing, or it is a change.
module _ (p : Plan) (cs : List Component) where
  pub plan_lacks : (e : Refusal) → p ≡ Err e → plan_says p cs ≡ lacks
  unfolding plan_says
  plan_lacks e q = rw q

  pub plan_stays : p ≡ Ok None → plan_says p cs ≡ stays
  unfolding plan_says
  plan_stays q = rw q

  pub plan_changes : (c : Change) → p ≡ Ok (Some c) → plan_says p cs ≡ changes (planned c cs) (planned_objects c)
  unfolding plan_says
  plan_changes c q = rw q

-- Of three tests in a row, the first that passes gives its number or its outcome; `other` is for none of them.
module _ (f : ℕ → Outcome) (other : Outcome) where
  refused_by_lem : (a b c : Bool) (n : ℕ) → n ≡ cond a 17 (cond b 18 (cond c 19 0)) → (n ≡ 0 → ⊥)
      → cond a (f 17) (cond b (f 18) (cond c (f 19) other)) ≡ f n
  refused_by_lem true b c n e z = rw e
  refused_by_lem false true c n e z = rw e
  refused_by_lem false false true n e z = rw e
  refused_by_lem false false false n e z = absurd (z e)

  accepted_by : (a b c : Bool) (n : ℕ) → n ≡ cond a 17 (cond b 18 (cond c 19 0)) → n ≡ 0
      → (a ≡ false) × (b ≡ false) × (c ≡ false) × (cond a (f 17) (cond b (f 18) (cond c (f 19) other)) ≡ other)
  accepted_by true b c n e z = absurd (omega arith)
  accepted_by false true c n e z = absurd (omega arith)
  accepted_by false false true n e z = absurd (omega arith)
  accepted_by false false false n e z = (refl, refl, refl, refl)

module _ (l : Layout) (k : Call) (cs : List Component) (os : List Object) where
  abbrev many : Bool
  many = ltb 16 (length cs)

  abbrev met : Bool
  met = meets os (records_in (view l))

  abbrev spent : Bool
  spent = eqb l.generation 4294967295

  -- What an accepted change gives.
  abbrev pub changed : Outcome
  changed = accepting l k true (packed (l.generation + 1) cs) (raised_first (usable k.mark) (length os) k.table)

  -- A change is refused by its number.
  pub change_refused : (n : ℕ) → n ≡ change_refusal l cs os → (n ≡ 0 → ⊥) → outcome_of l k (changes cs os) ≡ refusing l k n
  unfolding change_refusal outcome_of
  change_refused n e z = refused_by_lem (refusing l k) changed many met spent n e z

  -- An accepted change: nothing refuses it, and it gives what it gives.
  pub record Accepted : Type 0 where
    pub few : length cs ≤ 16
    pub apart : meets os (records_in (view l)) ≡ false
    pub below : l.generation ≡ 4294967295 → ⊥
    pub gives : outcome_of l k (changes cs os) ≡ changed

  pub change_accepted : (n : ℕ) → n ≡ change_refusal l cs os → n ≡ 0 → Accepted
  unfolding change_refusal outcome_of
  change_accepted n e z =
      let a = accepted_by (refusing l k) changed many met spent n e z in
      record {
        few = ltb-false 16 (length cs) a.0;
        apart = a.1;
        below = eqb-false l.generation 4294967295 a.2;
        gives = a.3;
      }

-- What a call gives, by the refusals that are asked before its step is made.
module _ (l : Layout) (k : Call) where
  abbrev good_by : Bool → Outcome
  good_by t = cond t (outcome_of l k (step_of l k)) (refusing l k 15)

  abbrev past_by : Bool → Outcome
  past_by t = cond t (refusing l k 10) (good_by (table_ok k.table))

  pub grow_past : leb (last_end (view l)) k.offset ≡ true → grow_in l k ≡ refusing l k 10
  unfolding grow_in
  grow_past e = ap past_by e

  pub grow_bad_table : leb (last_end (view l)) k.offset ≡ false → table_ok k.table ≡ false → grow_in l k ≡ refusing l k 15
  unfolding grow_in
  grow_bad_table e f = ap past_by e ∙ ap good_by f

  pub grow_steps : leb (last_end (view l)) k.offset ≡ false → table_ok k.table ≡ true
      → grow_in l k ≡ outcome_of l k (step_of l k)
  unfolding grow_in
  grow_steps e f = ap past_by e ∙ ap good_by f

  pub grow_invalid : valid l ≡ false → grow_of l k ≡ refusing l k 1
  unfolding grow_of
  grow_invalid e = ap (λ (t : Bool). cond t (grow_in l k) (refusing l k 1)) e

  pub grow_checked : valid l ≡ true → grow_of l k ≡ grow_in l k
  unfolding grow_of
  grow_checked e = ap (λ (t : Bool). cond t (grow_in l k) (refusing l k 1)) e
