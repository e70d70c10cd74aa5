-- The bits of a flag word.
use Rattle.std.specs.Prelude.{ℕ, ◌+◌, ◌^◌, ◌/◌, ◌%◌, Bool, cond, eqb, ltb}

-- Is bit i set?
unfoldable pub is_set : ℕ → ℕ → Bool
is_set i flags = eqb (flags / 2 ^ i % 2) 1

-- Is no bit set but the first n?
unfoldable pub only_first : ℕ → ℕ → Bool
only_first n flags = ltb flags (2 ^ n)

-- The flag word with bit 0 and bit 1 as given, and no other set.
unfoldable pub flag_word : Bool → Bool → ℕ
flag_word first second = cond first 1 0 + cond second 2 0
