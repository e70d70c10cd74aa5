-- The promises on refusal numbers, beside `number_exactly` of `Promises`, which says how to read this.
use Rattle.std.specs.Prelude.{ℕ, ◌<◌, ◌≤◌, ◌≡◌, List, ◌↔◌, ◌⊎◌, false, length}
use Rattle.refusals.specs.declared.Refusal as code
use Rattle.refusals.specs.Refusals.{number_of as code_number}
use Rattle.promises.specs.Numbers.{Refusal, IsFirst, refusal_at}
use Rattle.promises.specs.RefusalNumbers as all
use Rattle.promises.specs.RefusalNumbers.{refusal_of}
use Rattle.promises.proofs.NumberLaws as numbers

-- 0 is given exactly if no condition holds;
pub zero_exactly : (rs : List Refusal) (n : ℕ) → IsFirst n rs
    → (n ≡ 0) ↔ ((i : ℕ) → i < length rs → (refusal_at rs i).applies ≡ false)
zero_exactly = numbers.zero_exactly

-- and no other number is given than 0 and those of the list.
pub number_listed : (rs : List Refusal) (n : ℕ) → IsFirst n rs
    → (n ≡ 0) ⊎ ((i : ℕ) × (i < length rs) × (n ≡ (refusal_at rs i).number))
number_listed = numbers.given_listed

-- The calls answer with refusals of the code: each of the numbers 1 to 20 is that of one,
pub each_number : (n : ℕ) → 0 < n → n ≤ 20 → code_number (refusal_of n) ≡ n
each_number = all.each_number

-- and of no other.
pub same_number : (d e : code.Refusal) → code_number d ≡ code_number e → d ≡ e
same_number = all.same_number
