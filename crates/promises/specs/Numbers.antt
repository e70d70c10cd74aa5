-- Refusal numbers: which one a call gives, by the conditions of all its numbers in the order in which it asks them.
use Rattle.std.specs.Prelude.{ℕ, ◌<◌, ◌≡◌, List, [], ◌∷◌, Bool, true, false, not, cond, ◌&&◌, ◌||◌, eqb, get_or}

-- A refusal of a call: its number, and whether its condition holds.
pub record Refusal : Type 0 where
  pub number : ℕ
  pub applies : Bool

infix 70 ◌when◌
-- The refusal of a number under a condition.
abbrev pub ◌when◌ : ℕ → Bool → Refusal
n when t = record { number = n; applies = t }

-- The number of the first refusal of the list whose condition holds; 0 if none does.
abbrev pub first : List Refusal → ℕ
first [] = 0
first (r ∷ rs) = cond r.applies r.number (first rs)

-- Does a refusal of the list have this number?
abbrev pub has : ℕ → List Refusal → Bool
has n [] = false
has n (r ∷ rs) = eqb n r.number || has n rs

-- The numbers of the list differ from each other and from 0.
abbrev pub differ : List Refusal → Bool
differ [] = true
differ (r ∷ rs) = not (eqb r.number 0) && not (has r.number rs) && differ rs

-- The list rs has the numbers of a call in the order in which it asks them. They differ, and n is the first whose
-- condition holds, or 0 if none does.
abbrev pub IsFirst : ℕ → List Refusal → Type 0
IsFirst n rs = (differ rs ≡ true) × (n ≡ first rs)

-- The call refuses, by n: a condition holds, and n is the first number whose does.
abbrev pub RefusedBy : ℕ → List Refusal → Type 0
RefusedBy n rs = (0 < n) × IsFirst n rs

-- The refusal at a place of the list, from 0.
abbrev pub refusal_at : List Refusal → ℕ → Refusal
refusal_at rs i = get_or rs i (0 when false)

-- No refusal before that at place i applies.
abbrev pub NoneBefore : List Refusal → ℕ → Type 0
NoneBefore rs i = (j : ℕ) → j < i → (refusal_at rs j).applies ≡ false
