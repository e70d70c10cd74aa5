-- The laws of little-endian numbers, each once over the width of 2 ^ k bytes, then for two, four and eight bytes.
use Rattle.std.specs.Prelude.{ℕ, zero, suc, ◌+◌, ◌*◌, ◌^◌, ◌/◌, ◌%◌, ◌≤◌, ◌<◌, ◌≡◌, refl, List, [], ◌∷◌, ◌++◌, ℤ, length, get_or, take, drop}
use Rattle.std.proofs.Common.{append_assoc, arith, add-zero, add_assoc, mod-lt, div-add-mod', pow-suc, length-append, pow_pos, pow-add, shr_lt, drop-cons, take-add, drop-drop, get_or-take, get_or-drop, get_or-append-add, to_z-of_z, SFits}
use Rattle.std.proofs.Math.Arith.{digits_lt}
use Rattle.std.proofs.Math.ListN.{get_or-append}
use Rattle.std.proofs.Math.Pow.{high, low}
use Rattle.std.proofs.Math.Seq.{take-append_seam}
use Rattle.std.proofs.Math.Facts.{of_z-to_z, Fits-of_z}
use Rattle.std.specs.Int.{w32}
use Rattle.bytes_le.specs.Numbers.{le, enc, i32_of, i32_at, i32_bytes, bits_of, AreBytes}
use Rattle.bytes_le.specs.Numbers.{u16_at, u32_at, u64_at, u16_bytes, u32_bytes, u64_bytes}

-- A width of k + 1 has twice the bytes of a width of k.
bytes_twice : (k : ℕ) → 2 ^ suc k ≡ 2 ^ k + 2 ^ k
bytes_twice k = rw pow-suc (omega arith)

-- A width of k + 1 has twice the bits of a width of k.
bits_twice : (k : ℕ) → 8 * 2 ^ suc k ≡ 8 * 2 ^ k + 8 * 2 ^ k
bits_twice k = omega (arith, bytes_twice k)

-- A number is written into 2 ^ k bytes.
pub length_enc : (k n : ℕ) → length (enc k n) ≡ 2 ^ k
length_enc zero n = refl
length_enc (suc k) n =
    let b = 2 ^ (8 * 2 ^ k) in
    rw (length-append (enc k (n % b)) (enc k (n / b)), length_enc k (n % b), length_enc k (n / b), bytes_twice k)

-- A number is written into two, four and eight bytes.
pub u16_length : (n : ℕ) → length (u16_bytes n) ≡ 2
unfolding u16_bytes
u16_length n = length_enc 1 n

pub u32_length : (n : ℕ) → length (u32_bytes n) ≡ 4
unfolding u32_bytes
u32_length n = length_enc 2 n

pub u64_length : (n : ℕ) → length (u64_bytes n) ≡ 8
unfolding u64_bytes
u64_length n = length_enc 3 n

-- If two lists have the same bytes, they have the same number.
pub le_same : (k : ℕ) (s t : List ℕ) (i j : ℕ) → ((d : ℕ) → d < 2 ^ k → get_or s (i + d) 0 ≡ get_or t (j + d) 0)
    → le k s i ≡ le k t j
le_same zero s t i j h = rw (add-zero i, add-zero j) at (h 0 (omega arith))
le_same (suc k) s t i j h =
    let w = bytes_twice k in
    let lower : le k s i ≡ le k t j = le_same k s t i j (λ d b. h d (omega arith)) in
    let upper : le k s (i + 2 ^ k) ≡ le k t (j + 2 ^ k) =
    le_same k s t (i + 2 ^ k) (j + 2 ^ k) (λ d b. rw (add_assoc i, add_assoc j) (h (2 ^ k + d) (omega arith))) in
    rw (lower, upper)

-- A number that is after other bytes.
pub le_past : (k : ℕ) (p s : List ℕ) (j : ℕ) → le k (p ++ s) (length p + j) ≡ le k s j
le_past k p s j = le_same k (p ++ s) s (length p + j) j (λ d b. rw add_assoc (get_or-append-add p s (j + d) 0))

-- A number in two, four and eight bytes that is after other bytes.
pub u16_past : (p s : List ℕ) (j : ℕ) → u16_at (p ++ s) (length p + j) ≡ u16_at s j
unfolding u16_at
u16_past p s j = le_past 1 p s j

pub u32_past : (p s : List ℕ) (j : ℕ) → u32_at (p ++ s) (length p + j) ≡ u32_at s j
unfolding u32_at
u32_past p s j = le_past 2 p s j

pub u64_past : (p s : List ℕ) (j : ℕ) → u64_at (p ++ s) (length p + j) ≡ u64_at s j
unfolding u64_at
u64_past p s j = le_past 3 p s j

-- The bytes after a number do not matter.
pub le_before : (k : ℕ) (s t : List ℕ) (at : ℕ) → at + 2 ^ k ≤ length s → le k (s ++ t) at ≡ le k s at
le_before k s t at h = le_same k (s ++ t) s at at (λ d b. get_or-append s t 0 (at + d) (omega arith))

-- The bytes after a number in two, four and eight bytes do not matter.
pub u16_before : (s t : List ℕ) (at : ℕ) → at + 2 ≤ length s → u16_at (s ++ t) at ≡ u16_at s at
unfolding u16_at
u16_before s t at h = le_before 1 s t at h

pub u32_before : (s t : List ℕ) (at : ℕ) → at + 4 ≤ length s → u32_at (s ++ t) at ≡ u32_at s at
unfolding u32_at
u32_before s t at h = le_before 2 s t at h

pub u64_before : (s t : List ℕ) (at : ℕ) → at + 8 ≤ length s → u64_at (s ++ t) at ≡ u64_at s at
unfolding u64_at
u64_before s t at h = le_before 3 s t at h

-- A number that lies in the first n bytes.
pub le_take : (k n : ℕ) (s : List ℕ) (at : ℕ) → at + 2 ^ k ≤ n → le k (take n s) at ≡ le k s at
le_take k n s at h = le_same k (take n s) s at at (λ d b. get_or-take n s (at + d) 0 (omega arith))

-- A number in two, four and eight bytes that lies in the first n bytes.
pub u16_take : (n : ℕ) (s : List ℕ) (at : ℕ) → at + 2 ≤ n → u16_at (take n s) at ≡ u16_at s at
unfolding u16_at
u16_take n s at h = le_take 1 n s at h

pub u32_take : (n : ℕ) (s : List ℕ) (at : ℕ) → at + 4 ≤ n → u32_at (take n s) at ≡ u32_at s at
unfolding u32_at
u32_take n s at h = le_take 2 n s at h

pub u64_take : (n : ℕ) (s : List ℕ) (at : ℕ) → at + 8 ≤ n → u64_at (take n s) at ≡ u64_at s at
unfolding u64_at
u64_take n s at h = le_take 3 n s at h

-- A number that is after the first n bytes.
pub le_drop : (k n : ℕ) (s : List ℕ) (at : ℕ) → le k (drop n s) at ≡ le k s (n + at)
le_drop k n s at = le_same k (drop n s) s at (n + at) (λ d b. rw add_assoc (get_or-drop n s (at + d) 0))

-- A number in two, four and eight bytes that is after the first n bytes.
pub u16_drop : (n : ℕ) (s : List ℕ) (at : ℕ) → u16_at (drop n s) at ≡ u16_at s (n + at)
unfolding u16_at
u16_drop n s at = le_drop 1 n s at

pub u32_drop : (n : ℕ) (s : List ℕ) (at : ℕ) → u32_at (drop n s) at ≡ u32_at s (n + at)
unfolding u32_at
u32_drop n s at = le_drop 2 n s at

pub u64_drop : (n : ℕ) (s : List ℕ) (at : ℕ) → u64_at (drop n s) at ≡ u64_at s (n + at)
unfolding u64_at
u64_drop n s at = le_drop 3 n s at

-- What was written is read: the number in the bytes of n is n.
pub le_enc : (k n : ℕ) (t : List ℕ) → n < 2 ^ (8 * 2 ^ k) → le k (enc k n ++ t) 0 ≡ n
le_enc zero n t h = refl
le_enc (suc k) n t h =
    let e = 8 * 2 ^ k in
    let lower = n % 2 ^ e in
    let upper = n / 2 ^ e in
    let at : 0 + 2 ^ k ≡ length (enc k lower) + 0 = omega (arith, length_enc k lower) in
    let fits : upper < 2 ^ e = shr_lt e e (rw (bits_twice k) at h) in
    rw (append_assoc (enc k lower) (enc k upper) t, at, le_past k (enc k lower) (enc k upper ++ t) 0)
    (rw (le_enc k lower (enc k upper ++ t) (mod-lt n (pow_pos e)), le_enc k upper t fits)
    (omega (arith, div-add-mod' n (2 ^ e))))

-- What was written into two, four and eight bytes is read.
pub u16_back : (n : ℕ) (t : List ℕ) → n < 2 ^ 16 → u16_at (u16_bytes n ++ t) 0 ≡ n
unfolding u16_at u16_bytes
u16_back n t h = le_enc 1 n t h

pub u32_back : (n : ℕ) (t : List ℕ) → n < 2 ^ 32 → u32_at (u32_bytes n ++ t) 0 ≡ n
unfolding u32_at u32_bytes
u32_back n t h = le_enc 2 n t h

pub u64_back : (n : ℕ) (t : List ℕ) → n < 2 ^ 64 → u64_at (u64_bytes n ++ t) 0 ≡ n
unfolding u64_at u64_bytes
u64_back n t h = le_enc 3 n t h

-- A number in 2 ^ k bytes has 8 * 2 ^ k bits.
pub le_below : (k : ℕ) (s : List ℕ) (at : ℕ) → AreBytes s → le k s at < 2 ^ (8 * 2 ^ k)
le_below zero s at h = h at
le_below (suc k) s at h =
    let e = 8 * 2 ^ k in
    let b = digits_lt (le_below k s (at + 2 ^ k) h) (le_below k s at h) in
    rw (bits_twice k, pow-add 2 e e) (omega arith)

-- A number in two, four and eight bytes has 16, 32 and 64 bits.
pub u16_below : (s : List ℕ) (at : ℕ) → AreBytes s → u16_at s at < 2 ^ 16
unfolding u16_at
u16_below s at h = le_below 1 s at h

pub u32_below : (s : List ℕ) (at : ℕ) → AreBytes s → u32_at s at < 2 ^ 32
unfolding u32_at
u32_below s at h = le_below 2 s at h

pub u64_below : (s : List ℕ) (at : ℕ) → AreBytes s → u64_at s at < 2 ^ 64
unfolding u64_at
u64_below s at h = le_below 3 s at h

-- Two lists of bytes, one after the other, are bytes.
pub bytes_append : (p s : List ℕ) → AreBytes p → AreBytes s → AreBytes (p ++ s)
bytes_append [] s h k i = k i
bytes_append (b ∷ p) s h k zero = h 0
bytes_append (b ∷ p) s h k (suc i) = bytes_append p s (λ j. h (suc j)) k i

-- The bytes of a number are bytes.
pub enc_bytes : (k n : ℕ) → n < 2 ^ (8 * 2 ^ k) → AreBytes (enc k n)
enc_bytes zero n h zero = h
enc_bytes zero n h (suc i) = omega arith
enc_bytes (suc k) n h i =
    let e = 8 * 2 ^ k in
    bytes_append (enc k (n % 2 ^ e)) (enc k (n / 2 ^ e)) (enc_bytes k (n % 2 ^ e) (mod-lt n (pow_pos e)))
    (enc_bytes k (n / 2 ^ e) (shr_lt e e (rw (bits_twice k) at h))) i

-- What was read is written again: the bytes of a number are those that it was read from.
pub enc_le : (k : ℕ) (s : List ℕ) (at : ℕ) → AreBytes s → at + 2 ^ k ≤ length s
    → enc k (le k s at) ≡ take (2 ^ k) (drop at s)
enc_le zero s at h r = rw (drop-cons s at 0 (omega arith))
enc_le (suc k) s at h r =
    let w = bytes_twice k in
    let e = 8 * 2 ^ k in
    let lower = le k s at in
    let upper = le k s (at + 2 ^ k) in
    let n : lower + 2 ^ e * upper ≡ upper * 2 ^ e + lower = omega arith in
    let b : lower < 2 ^ e = le_below k s at h in
    rw (n, high upper e b, low upper e b, w, take-add (2 ^ k) (2 ^ k) (drop at s), drop-drop (2 ^ k) at s)
    (rw (enc_le k s at h (omega arith), enc_le k s (at + 2 ^ k) h (omega arith)))

-- What was read from two, four and eight bytes is written again.
pub u16_again : (s : List ℕ) (at : ℕ) → AreBytes s → at + 2 ≤ length s → u16_bytes (u16_at s at) ≡ take 2 (drop at s)
unfolding u16_at u16_bytes
u16_again s at h r = enc_le 1 s at h r

pub u32_again : (s : List ℕ) (at : ℕ) → AreBytes s → at + 4 ≤ length s → u32_bytes (u32_at s at) ≡ take 4 (drop at s)
unfolding u32_at u32_bytes
u32_again s at h r = enc_le 2 s at h r

pub u64_again : (s : List ℕ) (at : ℕ) → AreBytes s → at + 8 ≤ length s → u64_bytes (u64_at s at) ≡ take 8 (drop at s)
unfolding u64_at u64_bytes
u64_again s at h r = enc_le 3 s at h r

-- A signed number of 32 bits is the one that its bits mean.
pub bits_signed : (z : ℤ) → SFits w32 z → i32_of (bits_of z) ≡ z
unfolding i32_of bits_of
bits_signed z f = to_z-of_z f

-- The bits of a signed number of 32 bits are below 2 ^ 32.
pub bits_below : (z : ℤ) → SFits w32 z → bits_of z < 2 ^ 32
unfolding bits_of
bits_below z f = (Fits-of_z f).fits

-- The bits of the signed number that 32 bits mean are those bits.
pub signed_bits : (n : ℕ) → n < 2 ^ 32 → bits_of (i32_of n) ≡ n
unfolding i32_of bits_of
signed_bits n h = of_z-to_z {w = w32} (record { fits = h })

-- A signed number of 32 bits is written into four bytes, what was written is read, and what was read is written again.
pub i32_length : (z : ℤ) → length (i32_bytes z) ≡ 4
i32_length z = u32_length (bits_of z)

pub i32_back : (z : ℤ) (t : List ℕ) → SFits w32 z → i32_at (i32_bytes z ++ t) 0 ≡ z
i32_back z t f = rw (u32_back (bits_of z) t (bits_below z f)) (bits_signed z f)

pub i32_again : (s : List ℕ) (at : ℕ) → AreBytes s → at + 4 ≤ length s → i32_bytes (i32_at s at) ≡ take 4 (drop at s)
i32_again s at h r = rw (signed_bits (u32_at s at) (u32_below s at h)) (u32_again s at h r)

-- The first n elements of a list of bytes are bytes.
pub bytes_take : (n : ℕ) (s : List ℕ) → AreBytes s → AreBytes (take n s)
bytes_take zero s h i = omega arith
bytes_take (suc n) [] h i = omega arith
bytes_take (suc n) (b ∷ s) h zero = h 0
bytes_take (suc n) (b ∷ s) h (suc i) = bytes_take n s (λ j. h (suc j)) i

-- The elements after the first n of a list of bytes are bytes.
pub bytes_drop : (n : ℕ) (s : List ℕ) → AreBytes s → AreBytes (drop n s)
bytes_drop n s h i = rw (get_or-drop n s i 0) (h (n + i))

-- Of two lists that are bytes one after the other, the first is bytes.
pub bytes_append_left : (p s : List ℕ) → AreBytes (p ++ s) → AreBytes p
bytes_append_left p s h = rw take-append_seam at (bytes_take (length p) (p ++ s) h)

-- Of two lists that are bytes one after the other, the second is bytes.
pub bytes_append_right : (p s : List ℕ) → AreBytes (p ++ s) → AreBytes s
bytes_append_right p s h i = rw (get_or-append-add p s i 0) at (h (length p + i))
