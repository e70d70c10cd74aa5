-- The laws of answers.
use Rattle.std.specs.Prelude.{ℕ, zero, suc, ◌≡◌, refl, Bool, true, false, not}
use Rattle.std.proofs.Common.{sym, ap, ◌∙◌, arith}
use Rattle.std.proofs.lemmas.Bool.{not-true, not-false}
use Rattle.lists.specs.Bools.{bool_cases}
use Rattle.layout.specs.declared.Layout.{Layout}
use Rattle.layout.specs.Rules.{valid}
use Rattle.mapping.specs.Answers.{Answer, gives, refuses, answer, checked}

-- A call asks first whether its layout is valid. By the answer t: the layout is not valid,
pub invalid_by : (l : Layout) (t : Bool) → t ≡ valid l → not t ≡ true → valid l ≡ false
invalid_by l t e h = sym e ∙ not-true t h

-- or is.
pub valid_by : (l : Layout) (t : Bool) → t ≡ valid l → not t ≡ false → valid l ≡ true
valid_by l t e h = sym e ∙ not-false t h

module _ {A : Type 0} where
  -- What an answer gives; a if it refuses.
  abbrev given_or : A → Answer A → A
  given_or a (gives x) = x
  given_or a (refuses n) = a

  -- The number of a refusal; n if the answer gives something.
  abbrev number_or : ℕ → Answer A → ℕ
  number_or n (gives x) = n
  number_or n (refuses m) = m

  -- No answer both gives and refuses.
  pub gives_or_refuses : (x : A) (n : ℕ) → gives x ≡ refuses n → ⊥
  gives_or_refuses x n e = let m : suc n ≡ n = ap (number_or (suc n)) e in omega arith

  -- An answer that gives something has the number 0.
  pub answer_gives : (n : ℕ) (a x : A) → answer n a ≡ gives x → (n ≡ 0) × (a ≡ x)
  answer_gives zero a x e = (refl, ap (given_or a) e)
  answer_gives (suc n) a x e = absurd (gives_or_refuses x (suc n) (sym e))

  -- Under the number of a refusal the answer is that number.
  pub answer_refused : (n : ℕ) (a : A) → (n ≡ 0 → ⊥) → refuses n ≡ answer n a
  answer_refused zero a h = absurd (h refl)
  answer_refused (suc n) a h = refl

  -- Of a valid layout, the answer is the one under the later number.
  pub checked_valid : (l : Layout) (n : ℕ) (a : A) → valid l ≡ true → answer (checked l n) a ≡ answer n a
  checked_valid l n a v = rw v

  -- If something is given, the layout is valid.
  pub checked_gives : (l : Layout) (n : ℕ) (a x : A) → answer (checked l n) a ≡ gives x
      → (valid l ≡ true) × (answer n a ≡ gives x)
  checked_gives l n a x e =
      bool_cases (valid l) (λ v. (v, rw v at e)) (λ v. absurd (gives_or_refuses x 1 (sym (rw v at e))))
