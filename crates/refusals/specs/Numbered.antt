-- Answers by their numbers.
use Rattle.std.specs.Prelude.{ℕ, ◌≡◌, refl, Result, Ok, Err}
use Rattle.refusals.specs.declared.Refusal.{Refusal}
use Rattle.refusals.specs.Refusals.{number_of, number_in}

-- What a call answers, with the number of the refusal in place of the refusal: as document 01 has it.
abbrev pub numbered : {A : Type 0} → Result A Refusal → Result A ℕ
numbered (Ok a) = Ok a
numbered (Err e) = Err (number_of e)

-- The number that such an answer means: that of the refusal, and 0 if it is what was asked for.
abbrev pub answer_number : {A : Type 0} → Result A ℕ → ℕ
answer_number (Ok a) = 0
answer_number (Err n) = n

-- It is the number in the answer.
pub numbered_number : {A : Type 0} (r : Result A Refusal) → answer_number (numbered r) ≡ number_in r
numbered_number (Ok a) = refl
numbered_number (Err e) = refl
