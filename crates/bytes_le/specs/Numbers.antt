-- "Numbers are little-endian": a number in a list of bytes, and the bytes of a number, one definition for every width.
use Rattle.std.specs.Prelude.{ℕ, zero, suc, ◌+◌, ◌*◌, ◌^◌, ◌/◌, ◌%◌, ◌<◌, List, [], ◌∷◌, ◌++◌, get_or, ℤ}
use Rattle.std.specs.Int.{w32}
use Rattle.std.proofs.Common.{to_z, of_z}

-- The number in the 2 ^ k bytes from `at` on, the lower half first. A byte past the end of the list reads as 0.
abbrev pub le : ℕ → List ℕ → ℕ → ℕ
le zero s at = get_or s at 0
le (suc k) s at = le k s at + 2 ^ (8 * 2 ^ k) * le k s (at + 2 ^ k)

-- The number in two bytes.
unfoldable pub u16_at : List ℕ → ℕ → ℕ
u16_at s at = le 1 s at

-- The number in four bytes.
unfoldable pub u32_at : List ℕ → ℕ → ℕ
u32_at s at = le 2 s at

-- The number in eight bytes.
unfoldable pub u64_at : List ℕ → ℕ → ℕ
u64_at s at = le 3 s at

-- The signed number of 32 bits, in two's complement.
unfoldable pub i32_of : ℕ → ℤ
i32_of bits = to_z w32 bits

-- The signed number in four bytes.
abbrev pub i32_at : List ℕ → ℕ → ℤ
i32_at s at = i32_of (u32_at s at)

-- The 2 ^ k bytes of a number, the lower half first.
abbrev pub enc : ℕ → ℕ → List ℕ
enc zero n = n ∷ []
enc (suc k) n = enc k (n % 2 ^ (8 * 2 ^ k)) ++ enc k (n / 2 ^ (8 * 2 ^ k))

-- The two bytes of a number.
unfoldable pub u16_bytes : ℕ → List ℕ
u16_bytes n = enc 1 n

-- The four bytes of a number.
unfoldable pub u32_bytes : ℕ → List ℕ
u32_bytes n = enc 2 n

-- The eight bytes of a number.
unfoldable pub u64_bytes : ℕ → List ℕ
u64_bytes n = enc 3 n

-- The 32 bits of a signed number, in two's complement.
unfoldable pub bits_of : ℤ → ℕ
bits_of z = of_z w32 z

-- The four bytes of a signed number.
abbrev pub i32_bytes : ℤ → List ℕ
i32_bytes z = u32_bytes (bits_of z)

-- The elements of the list are bytes, as those of every slice of bytes are.
abbrev pub AreBytes : List ℕ → Type 0
AreBytes s = (i : ℕ) → get_or s i 0 < 256
