-- A rule over a list is a list of tests, one for each element. The rule holds if every test passes; where it does not, the
-- first test that fails tells the position of the fault.
use Rattle.std.specs.Prelude.{ℕ, zero, suc, ◌+◌, ◌≤◌, ◌<◌, ◌≡◌, refl, List, [], ◌∷◌, ◌++◌, Option, Some, None, Bool, true, false, cond, ◌&&◌, ◌||◌, ltb, length, get_or, take, drop}
use Rattle.std.proofs.Common.{sym, ap, ◌∙◌, arith, suc-add, lt-ltb}
use Rattle.std.proofs.lemmas.Bool.{false≢true}
use Rattle.std.proofs.Math.Dec.{leb-suc-suc}
use Rattle.lists.specs.Bools.{bool_cases, both_true, true_both}

-- Do all tests pass?
abbrev pub every : List Bool → Bool
every [] = true
every (t ∷ ts) = t && every ts

-- The position of the first test that fails, from 0; the number of tests if none does.
abbrev pub first_failed : List Bool → ℕ
first_failed [] = 0
first_failed (t ∷ ts) = cond t (suc (first_failed ts)) 0

module _ {S A : Type 0} (ok : S → A → Bool) (next : S → A → S) where
  -- One test for each element, along the list: `ok` of a state and the element, and `next` gives the state at the next.
  abbrev pub along : S → List A → List Bool
  along s [] = []
  along s (a ∷ l) = ok s a ∷ along (next s a) l

-- The state after a list.
abbrev pub after : {S A : Type 0} → (S → A → S) → S → List A → S
after next s [] = s
after next s (a ∷ l) = after next (next s a) l

pub after_append : {S A : Type 0} (next : S → A → S) (s : S) (l m : List A) → after next s (l ++ m) ≡ after next (after next s l) m
after_append next s [] m = refl
after_append next s (a ∷ l) m = after_append next (next s a) l m

-- One test for each element and what follows it.
abbrev pub ahead : {A : Type 0} → (A → List A → Bool) → List A → List Bool
ahead ok [] = []
ahead ok (a ∷ l) = ok a l ∷ ahead ok l

-- One test for each element by itself.
abbrev pub each : {A : Type 0} → (A → Bool) → List A → List Bool
each {A} ok l = ahead (λ (a : A) (rest : List A). ok a) l

-- Does an element pass the test?
abbrev pub any_of : {A : Type 0} → (A → Bool) → List A → Bool
any_of ok [] = false
any_of ok (a ∷ l) = ok a || any_of ok l

-- The position of the first element that passes the test, from 0; the number of elements if none does.
abbrev pub first_that : {A : Type 0} → (A → Bool) → List A → ℕ
first_that ok [] = 0
first_that ok (a ∷ l) = cond (ok a) 0 (suc (first_that ok l))

-- The position i in a list of n elements, or `None` if the list ends before it.
abbrev pub found : ℕ → ℕ → Option ℕ
found i n = cond (ltb i n) (Some i) None

-- Every test passes exactly if the first that fails is at the number of tests.
pub none_failed : (ts : List Bool) → length ts ≤ first_failed ts → every ts ≡ true
none_failed [] h = refl
none_failed (true ∷ ts) h = none_failed ts (omega arith)
none_failed (false ∷ ts) h = absurd (omega arith)

pub every_failed : (ts : List Bool) → every ts ≡ true → first_failed ts ≡ length ts
every_failed [] e = refl
every_failed (true ∷ ts) e = ap suc (every_failed ts e)
every_failed (false ∷ ts) e = absurd (false≢true e)

-- Tests that are known to pass may be passed over.
pub failed_skip : (k : ℕ) (ts : List Bool) → k ≤ length ts → every (take k ts) ≡ true → first_failed ts ≡ k + first_failed (drop k ts)
failed_skip zero ts h e = omega arith
failed_skip (suc k) [] h e = absurd (omega arith)
failed_skip (suc k) (true ∷ ts) h e = ap suc (failed_skip k ts (omega arith) e) ∙ sym (suc-add k (first_failed (drop k ts)))
failed_skip (suc k) (false ∷ ts) h e = absurd (false≢true e)

-- What holds of all tests holds of the first ones.
pub every_take : (k : ℕ) (ts : List Bool) → every ts ≡ true → every (take k ts) ≡ true
every_take zero ts e = refl
every_take (suc k) [] e = refl
every_take (suc k) (true ∷ ts) e = every_take k ts e
every_take (suc k) (false ∷ ts) e = e

module _ {S A : Type 0} (ok : S → A → Bool) (next : S → A → S) where
  pub length_along : (s : S) (l : List A) → length (along ok next s l) ≡ length l
  length_along s [] = refl
  length_along s (a ∷ l) = ap suc (length_along (next s a) l)

  pub take_along : (k : ℕ) (s : S) (l : List A) → take k (along ok next s l) ≡ along ok next s (take k l)
  take_along zero s l = refl
  take_along (suc k) s [] = refl
  take_along (suc k) s (a ∷ l) = ap (λ (ts : List Bool). ok s a ∷ ts) (take_along k (next s a) l)

  pub drop_along : (k : ℕ) (s : S) (l : List A) → drop k (along ok next s l) ≡ along ok next (after next s (take k l)) (drop k l)
  drop_along zero s l = refl
  drop_along (suc k) s [] = refl
  drop_along (suc k) s (a ∷ l) = drop_along k (next s a) l

module _ {A : Type 0} (ok : A → List A → Bool) where
  pub length_ahead : (l : List A) → length (ahead ok l) ≡ length l
  length_ahead [] = refl
  length_ahead (a ∷ l) = ap suc (length_ahead l)

  pub drop_ahead : (k : ℕ) (l : List A) → drop k (ahead ok l) ≡ ahead ok (drop k l)
  drop_ahead zero l = refl
  drop_ahead (suc k) [] = refl
  drop_ahead (suc k) (a ∷ l) = drop_ahead k l

pub take_each : {A : Type 0} (ok : A → Bool) (k : ℕ) (l : List A) → take k (each ok l) ≡ each ok (take k l)
take_each ok zero l = refl
take_each ok (suc k) [] = refl
take_each ok (suc k) (a ∷ l) = ap (λ (ts : List Bool). ok a ∷ ts) (take_each ok k l)

-- Every element passes its test exactly if the element at each place does.
module _ {A : Type 0} (ok : A → Bool) (d : A) where
  pub each_at : (l : List A) → every (each ok l) ≡ true → (i : ℕ) → i < length l → ok (get_or l i d) ≡ true
  each_at [] e i h = absurd (omega arith)
  each_at (a ∷ l) e zero h = (both_true (ok a) (every (each ok l)) e).0
  each_at (a ∷ l) e (suc i) h = each_at l (both_true (ok a) (every (each ok l)) e).1 i (omega arith)

  pub at_each : (l : List A) → ((i : ℕ) → i < length l → ok (get_or l i d) ≡ true) → every (each ok l) ≡ true
  at_each [] h = refl
  at_each (a ∷ l) h = true_both (h 0 (omega arith)) (at_each l (λ i k. h (suc i) (omega arith)))

-- An element of a list passes a test exactly if the one at some place does.
module _ {A : Type 0} (ok : A → Bool) (d : A) where
  pub any_at : (l : List A) (i : ℕ) → i < length l → ok (get_or l i d) ≡ true → any_of ok l ≡ true
  any_at [] i h e = absurd (omega arith)
  any_at (a ∷ l) zero h e = rw e
  any_at (a ∷ l) (suc i) h e = bool_cases (ok a) (λ q. rw q) (λ q. rw q (any_at l i (omega arith) e))

  pub any_place : (l : List A) → any_of ok l ≡ true → (i : ℕ) × (i < length l) × (ok (get_or l i d) ≡ true)
  any_place [] e = absurd (false≢true e)
  any_place (a ∷ l) e =
      bool_cases (ok a) (λ q. (0, omega arith, q))
      (λ q. let p = any_place l (rw q at e) in (suc p.0, omega (arith, p.1), p.2))

-- The position of the first element that passes a test.
module _ {A : Type 0} (ok : A → Bool) where
  -- It is at most the number of elements,
  pub first_le : (l : List A) → first_that ok l ≤ length l
  first_le [] = omega arith
  first_le (a ∷ l) = bool_cases (ok a) (λ e. rw e (omega arith)) (λ e. rw e (omega (arith, first_le l)))

  -- below it exactly if an element passes,
  pub first_any : (l : List A) → any_of ok l ≡ ltb (first_that ok l) (length l)
  first_any [] = refl
  first_any (a ∷ l) =
      bool_cases (ok a) (λ e. rw e (sym (lt-ltb 0 (suc (length l)) (omega arith))))
      (λ e. rw e (first_any l ∙ sym (leb-suc-suc (suc (first_that ok l)) (length l))))

  -- and then the element there does.
  pub first_passes : (l : List A) (d : A) → first_that ok l < length l → ok (get_or l (first_that ok l) d) ≡ true
  first_passes [] d h = absurd (omega arith)
  first_passes (a ∷ l) d h =
      bool_cases (ok a) (λ e. rw e e) (λ e. rw e (first_passes l d (omega (arith, rw e at h))))

-- A conjunction `t && u && v ..`, by its first test and the list of the others.
abbrev pub conjunction : Bool → List Bool → Bool
conjunction t [] = t
conjunction t (u ∷ us) = conjunction (t && u) us

-- If a conjunction passes, so does its test at each place.
pub conjunction_at : (t : Bool) (us : List Bool) → conjunction t us ≡ true → (i : ℕ) → get_or (t ∷ us) i true ≡ true
conjunction_at t [] e zero = e
conjunction_at t [] e (suc i) = refl
conjunction_at t (u ∷ us) e zero = (both_true t u (conjunction_at (t && u) us e 0)).0
conjunction_at t (u ∷ us) e (suc zero) = (both_true t u (conjunction_at (t && u) us e 0)).1
conjunction_at t (u ∷ us) e (suc (suc i)) = conjunction_at (t && u) us e (suc i)
