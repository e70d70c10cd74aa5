-- What a loop knows that looks for the first element of a list that passes a test, and what the answer `found` says.
use Rattle.std.specs.Prelude.{ℕ, ◌+◌, ◌<◌, ◌≤◌, ◌≡◌, List, Bool, true, false, ltb, length, get_or, drop}
use Rattle.std.specs.Prelude.{Option, Some, None}
use Rattle.std.proofs.Common.{◌∙◌, arith, drop-cons, add-one, add-zero, ltb-true, ltb-false}
use Rattle.lists.specs.Bools.{cond_elim}
use Rattle.lists.specs.Tests.{first_that, found}

-- A position that is given is that of the first element, and there is one.
pub found_some : (i n j : ℕ) → found i n ≡ Some j → (j ≡ i) × (i < n)
found_some i n j =
    cond_elim (λ (o : Option ℕ). o ≡ Some j → (j ≡ i) × (i < n)) (ltb i n)
    (λ t e. (cc, ltb-true i n t))
    (λ t e. cc)

-- If none is given, there is none.
pub found_none : (i n : ℕ) → found i n ≡ None → n ≤ i
found_none i n =
    cond_elim (λ (o : Option ℕ). o ≡ None → n ≤ i) (ltb i n)
    (λ t e. cc)
    (λ t e. ltb-false i n t)

-- None of the first i elements passes the test, so the first that does is among the rest.
module _ {A : Type 0} (test : A → Bool) (l : List A) (i : ℕ) (d : A) (h : i < length l)
    (far : first_that test l ≡ i + first_that test (drop i l)) where
  -- Nor does the next one.
  pub first_later : test (get_or l i d) ≡ false → first_that test l ≡ i + 1 + first_that test (drop (i + 1) l)
  first_later e = far ∙ rw (drop-cons l i d h, e, add-one) (omega arith)

  -- It is the next one.
  pub first_here : test (get_or l i d) ≡ true → first_that test l ≡ i
  first_here e = far ∙ rw (drop-cons l i d h, e) (add-zero i)
