-- Lists whose elements all differ, by a test of sameness: as a list of tests, and as counts.
use Rattle.std.specs.Prelude.{ℕ, zero, suc, ◌+◌, ◌≤◌, ◌<◌, ◌≡◌, refl, List, [], ◌∷◌, ◌++◌, Bool, true, false, not, ◌||◌, length, get_or}
use Rattle.std.proofs.Common.{sym, ap, ◌∙◌, append-nil, arith}
use Rattle.std.proofs.lemmas.Bool.{false≢true}
use Rattle.std.proofs.Math.Seq.{append_snoc}
use Rattle.lists.specs.Bools.{bool_cases, both_false}
use Rattle.lists.specs.Tests.{along, after, any_of}

-- 1 for a test that passes, 0 for one that fails.
abbrev pub bit : Bool → ℕ
bit true = 1
bit false = 0

-- Those seen, and x.
abbrev pub seen_with : {A : Type 0} → List A → A → List A
seen_with seen x = seen ++ (x ∷ [])

-- The state after a list is what was seen and the list.
pub after_seen : {A : Type 0} (seen l : List A) → after seen_with seen l ≡ seen ++ l
after_seen seen [] = sym (append-nil seen)
after_seen seen (a ∷ l) = after_seen (seen ++ (a ∷ [])) l ∙ append_snoc seen a l

module _ {A : Type 0} (same : A → A → Bool) where
  -- Is x in the list?
  abbrev pub elem : A → List A → Bool
  elem x l = any_of (same x) l

  -- Is x in none of those seen?
  abbrev pub unseen : List A → A → Bool
  unseen seen x = not (elem x seen)

  -- One test for each element: it differs from all that are before it.
  abbrev pub fresh : List A → List Bool
  fresh l = along unseen seen_with [] l

  -- How often x is in the list.
  abbrev pub count : A → List A → ℕ
  count x [] = 0
  count x (a ∷ l) = bit (same x a) + count x l

  pub count_append : (x : A) (l m : List A) → count x (l ++ m) ≡ count x l + count x m
  count_append x [] m = omega arith
  count_append x (a ∷ l) m = omega (arith, count_append x l m)

  -- An element is in two lists, one after the other, exactly if it is in one of them.
  pub elem_append : (x : A) (l m : List A) → elem x (l ++ m) ≡ (elem x l || elem x m)
  elem_append x [] m = refl
  elem_append x (a ∷ l) m = bool_cases (same x a) (λ e. rw e) (λ e. rw e (elem_append x l m))

  -- An element that is not in a list counts 0 there, and one that is counts at least 1.
  pub elem_false : (x : A) (l : List A) → elem x l ≡ false → count x l ≡ 0
  elem_false x [] e = refl
  elem_false x (a ∷ l) e =
      let p = both_false (same x a) (elem x l) e in
      rw p.0 (omega (arith, elem_false x l p.1))

  pub elem_true : (x : A) (l : List A) → elem x l ≡ true → 1 ≤ count x l
  elem_true x [] e = absurd (false≢true e)
  elem_true x (a ∷ l) e = bool_cases (same x a) (λ q. rw q (omega arith)) (λ q. omega (arith, elem_true x l (rw q at e)))

  -- If the test of sameness passes for each element and itself.
  module _ (same_refl : (x : A) → same x x ≡ true) where
    -- The element at a place is in the list.
    pub elem_at : (l : List A) (i : ℕ) (d : A) → i < length l → elem (get_or l i d) l ≡ true
    elem_at [] i d h = absurd (omega arith)
    elem_at (a ∷ l) zero d h = rw (same_refl a)
    elem_at (a ∷ l) (suc i) d h =
        bool_cases (same (get_or l i d) a) (λ e. rw e) (λ e. rw e (elem_at l i d (omega arith)))

    -- The element at a place counts; if it counts once, it is at no other place.
    pub count_at : (l : List A) (i : ℕ) (d : A) → i < length l → 1 ≤ count (get_or l i d) l
    count_at [] i d h = omega arith
    count_at (a ∷ l) zero d h = rw (same_refl a) (omega arith)
    count_at (a ∷ l) (suc i) d h = omega (arith, count_at l i d (omega arith))

    pub count_once : (l : List A) (i j : ℕ) (d : A) → i < length l → j < length l → count (get_or l i d) l ≤ 1
        → get_or l i d ≡ get_or l j d → i ≡ j
    count_once [] i j d h k c e = omega arith
    count_once (a ∷ l) zero zero d h k c e = refl
    count_once (a ∷ l) zero (suc j) d h k c e =
        let m : 1 ≤ count a l = rw e (count_at l j d (omega arith)) in
        let r : bit (same a a) ≡ 1 = rw (same_refl a) in omega arith
    count_once (a ∷ l) (suc i) zero d h k c e =
        let m : 1 ≤ count (get_or l i d) l = count_at l i d (omega arith) in
        let r : bit (same (get_or l i d) a) ≡ 1 = rw (e, same_refl a) in omega arith
    count_once (a ∷ l) (suc i) (suc j) d h k c e = ap suc (count_once l i j d (omega arith) (omega arith) (omega arith) e)
