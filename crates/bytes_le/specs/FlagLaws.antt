-- The laws of flag words: what is in the word that is written, and that a word that may be read is written again.
use Rattle.std.specs.Prelude.{ℕ, zero, suc, ◌^◌, ◌<◌, ◌≡◌, refl, Bool, true, false}
use Rattle.std.proofs.Common.{arith, ltb-true}
use Rattle.bytes_le.specs.Flags.{is_set, only_first, flag_word}

-- Bit 0 of the flag word is the first flag, bit 1 the second, and no other bit is set.
word_says : (a b : Bool)
    → (is_set 0 (flag_word a b) ≡ a) × (is_set 1 (flag_word a b) ≡ b) × (only_first 2 (flag_word a b) ≡ true)
unfolding is_set only_first flag_word
word_says true true = (refl, refl, refl)
word_says true false = (refl, refl, refl)
word_says false true = (refl, refl, refl)
word_says false false = (refl, refl, refl)

pub first_word : (a b : Bool) → is_set 0 (flag_word a b) ≡ a
first_word a b = (word_says a b).0

pub second_word : (a b : Bool) → is_set 1 (flag_word a b) ≡ b
second_word a b = (word_says a b).1

pub word_only : (a b : Bool) → only_first 2 (flag_word a b) ≡ true
word_only a b = (word_says a b).2

-- The flag word without the second flag has no bit set but bit 0.
pub word_first : (a : Bool) → only_first 1 (flag_word a false) ≡ true
unfolding only_first flag_word
word_first true = refl
word_first false = refl

-- The flag word is a number of 16 bits.
pub word_below : (a b : Bool) → flag_word a b < 2 ^ 16
unfolding only_first
word_below a b = omega (arith, ltb-true (flag_word a b) 4 (word_only a b))

-- A word with no bit set but bits 0 and 1 is the flag word of those bits.
pub words_two : (flags : ℕ) → only_first 2 flags ≡ true → flag_word (is_set 0 flags) (is_set 1 flags) ≡ flags
unfolding is_set only_first flag_word
words_two zero e = refl
words_two (suc zero) e = refl
words_two (suc (suc zero)) e = refl
words_two (suc (suc (suc zero))) e = refl
words_two (suc (suc (suc (suc flags)))) e = absurd (omega (arith, ltb-true (suc (suc (suc (suc flags)))) 4 e))

-- A word with no bit set but bit 0 is the flag word of that bit.
pub words_one : (flags : ℕ) → only_first 1 flags ≡ true → flag_word (is_set 0 flags) false ≡ flags
unfolding is_set only_first flag_word
words_one zero e = refl
words_one (suc zero) e = refl
words_one (suc (suc flags)) e = absurd (omega (arith, ltb-true (suc (suc flags)) 2 e))
