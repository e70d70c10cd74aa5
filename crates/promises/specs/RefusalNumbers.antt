-- The refusals of the code and their numbers, 1 to 20: each number is that of one refusal.
use Rattle.std.specs.Prelude.{ℕ, zero, suc, ◌-◌, ◌+◌, ◌≡◌, ◌<◌, ◌≤◌, refl, List, [], ◌∷◌, get_or, length, Bool, true, eqb, ◌&&◌}
use Rattle.std.proofs.Common.{arith, sym, ap, ◌∙◌, eqb-true}
use Rattle.lists.specs.Bools.{both_true}
use Rattle.refusals.specs.declared.Refusal.{Refusal}
use Rattle.refusals.specs.declared.Refusal.TheVariants.{NotValid, AfterLastPage, Form, PageNumber, Over16, Fields, Neighbours, Distinctness, RequestEnd, PastEnd, NotInit, Pieces, NoObject, Hidden, Table, TooFewTargets, GrownOver16, ObjectInLayout, Generation, Buffer}
use Rattle.refusals.specs.Refusals.{number_of}

-- All refusals, by their numbers.
abbrev pub all_refusals : List Refusal
all_refusals =
    NotValid ∷ AfterLastPage ∷ Form ∷ PageNumber ∷ Over16 ∷ Fields ∷ Neighbours ∷ Distinctness ∷ RequestEnd ∷ PastEnd
    ∷ NotInit ∷ Pieces ∷ NoObject ∷ Hidden ∷ Table ∷ TooFewTargets ∷ GrownOver16 ∷ ObjectInLayout ∷ Generation ∷ Buffer
    ∷ []

-- The refusal of a number.
abbrev pub refusal_of : ℕ → Refusal
refusal_of n = get_or all_refusals (n - 1) NotValid

pub of_number : (e : Refusal) → refusal_of (number_of e) ≡ e
of_number NotValid = refl
of_number AfterLastPage = refl
of_number Form = refl
of_number PageNumber = refl
of_number Over16 = refl
of_number Fields = refl
of_number Neighbours = refl
of_number Distinctness = refl
of_number RequestEnd = refl
of_number PastEnd = refl
of_number NotInit = refl
of_number Pieces = refl
of_number NoObject = refl
of_number Hidden = refl
of_number Table = refl
of_number TooFewTargets = refl
of_number GrownOver16 = refl
of_number ObjectInLayout = refl
of_number Generation = refl
of_number Buffer = refl

-- Two refusals with one number are one.
pub same_number : (d e : Refusal) → number_of d ≡ number_of e → d ≡ e
same_number d e h = sym (of_number d) ∙ ap refusal_of h ∙ of_number e

-- The numbers of the refusals count from k.
abbrev counts : ℕ → List Refusal → Bool
counts k [] = true
counts k (e ∷ es) = eqb (number_of e) k && counts (suc k) es

counted : (k : ℕ) (es : List Refusal) (i : ℕ) → counts k es ≡ true → i < length es → number_of (get_or es i NotValid) ≡ k + i
counted k [] i e h = absurd (omega arith)
counted k (r ∷ rs) zero e h = omega (arith, eqb-true (number_of r) k (both_true (eqb (number_of r) k) (counts (suc k) rs) e).0)
counted k (r ∷ rs) (suc i) e h =
    omega (arith, counted (suc k) rs i (both_true (eqb (number_of r) k) (counts (suc k) rs) e).1 (omega arith))

-- Each number from 1 to 20 is that of a refusal.
pub each_number : (n : ℕ) → 0 < n → n ≤ 20 → number_of (refusal_of n) ≡ n
each_number n h k = omega (arith, counted 1 all_refusals (n - 1) refl (omega arith))
