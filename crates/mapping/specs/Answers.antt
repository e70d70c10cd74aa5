-- What a call answers.
use Rattle.std.specs.Prelude.{ℕ, zero, suc, cond}
use Rattle.layout.specs.declared.Layout.{Layout}
use Rattle.layout.specs.Rules.{valid}

-- What was asked for, or the number of a refusal.
pub data Answer (A : Type 0) : Type 0 where
  gives : A → Answer A
  refuses : ℕ → Answer A

-- The answer under the number of a refusal, or under 0: "A refusal returns its number only".
abbrev pub answer : {A : Type 0} → ℕ → A → Answer A
answer zero a = gives a
answer (suc n) a = refuses (suc n)

-- The number of an answer that refuses; 0 if it gives what was asked for.
abbrev pub answer_number : {A : Type 0} → Answer A → ℕ
answer_number (gives a) = 0
answer_number (refuses n) = n

-- The number of the refusal of a layout that was handed in: 1 if it is not valid, else the later number n, or 0.
abbrev pub checked : Layout → ℕ → ℕ
checked l n = cond (valid l) n 1
