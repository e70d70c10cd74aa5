-- What std's conversions and copies give, in the words of Numbers.
use Rattle.std.specs.Prelude.{ℕ, ◌+◌, ◌-◌, ◌^◌, ◌<◌, ◌≤◌, ◌≡◌, List, [], length}
use Rattle.std.specs.Int.{w16, w32, w64, from_le_bytes, to_le_bytes}
use Rattle.std.proofs.Common.{sym, ◌∙◌, arith, append-nil, drop-drop, append_assoc}
use Rattle.std.proofs.lemmas.List.Edits.{sets, sets-eq}
use Rattle.std.proofs.lemmas.Nat.{le_bytes_2, le_bytes_4, le_bytes_8}
use borrow.Rule.Slice.PartMut.{put_mid}
use Rattle.bytes_le.specs.Numbers.{u16_at, u32_at, u64_at, u16_bytes, u32_bytes, u64_bytes}
use Rattle.bytes_le.specs.NumberLaws.{u16_length, u32_length, u64_length, u16_back, u32_back, u64_back, enc_bytes}

-- A list that is copied over the part from `at` on is a run of stores.
pub copied : {A : Type 0} (l v : List A) (at n : ℕ) → length v ≡ n → at + n ≤ length l
    → put_mid at (at + n - at) l v ≡ sets l at v
copied l v at n e h =
    let k : at + n - at ≡ length v = omega arith in
    rw (k, drop-drop (length v) at l, sets-eq v l at (omega arith), append_assoc)

-- The number in two, four and eight bytes.
pub u16_from : (s : List ℕ) → from_le_bytes w16 s ≡ u16_at s 0
unfolding u16_at
u16_from s = omega arith

pub u32_from : (s : List ℕ) → from_le_bytes w32 s ≡ u32_at s 0
unfolding u32_at
u32_from s = omega arith

pub u64_from : (s : List ℕ) → from_le_bytes w64 s ≡ u64_at s 0
unfolding u64_at
u64_from s = omega arith

-- The two, four and eight bytes of a number.
pub u16_to : (n : ℕ) → n < 2 ^ 16 → to_le_bytes w16 n ≡ u16_bytes n
unfolding u16_bytes
u16_to n h =
    le_bytes_2 (u16_bytes n) n (u16_length n) (enc_bytes 1 n h)
    (sym (u16_from (u16_bytes n) ∙ rw append-nil at (u16_back n [] h)))

pub u32_to : (n : ℕ) → n < 2 ^ 32 → to_le_bytes w32 n ≡ u32_bytes n
unfolding u32_bytes
u32_to n h =
    le_bytes_4 (u32_bytes n) n (u32_length n) (enc_bytes 2 n h)
    (sym (u32_from (u32_bytes n) ∙ rw append-nil at (u32_back n [] h)))

pub u64_to : (n : ℕ) → n < 2 ^ 64 → to_le_bytes w64 n ≡ u64_bytes n
unfolding u64_bytes
u64_to n h =
    le_bytes_8 (u64_bytes n) n (u64_length n) (enc_bytes 3 n h)
    (sym (u64_from (u64_bytes n) ∙ rw append-nil at (u64_back n [] h)))
