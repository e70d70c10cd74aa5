-- The masks of a flag word: one for each bit, and one for all the bits from some bit on.
use Prim.Native.Nat.{ℕ, zero, suc, ◌+◌, ◌-◌, ◌*◌, ◌^◌, ◌/◌, ◌%◌, ◌<◌}
use mathlib.Core.Path.{◌≡◌, refl}
use native.Mathlib.Omega.{arith}
use native.Mathlib.Nat.{mod-lt, div-eq_of_lt, pow-suc}
use native.Mathlib.Numerals.{one-add}
use lib.Dec.{eqb, ltb}
use lib.Bits.{bit_and, and_high}
use lib.Pow.{pow_pos, shr_mod, split}
use borrow.Author.Tests.{eqb-true, eq-eqb, ltb-true, lt-ltb}
use Rattle.lists.specs.Bools.{same_test}
use Rattle.bytes_le.specs.Flags.{is_set, only_first}

-- A product by a positive number is that number exactly if the other factor is 1.
times_one : (b p : ℕ) → 0 < p → b * p ≡ p → b ≡ 1
times_one zero p h e = absurd (omega arith)
times_one (suc zero) p h e = refl
times_one (suc (suc b)) p h e = absurd (omega arith)

-- The mask of bit i leaves its number if the bit is set.
pub mask_bit : (i flags : ℕ) → eqb (bit_and flags (2 ^ i)) (2 ^ i) ≡ is_set i flags
unfolding is_set
mask_bit i flags =
    let m : 2 ^ (1 + i) - 2 ^ i ≡ 2 ^ i = rw (one-add, pow-suc) (omega arith) in
    let b = flags / 2 ^ i % 2 in
    let e : bit_and flags (2 ^ i) ≡ b * 2 ^ i = rw m at (and_high flags 1 i) in
    rw e (same_test (eqb (b * 2 ^ i) (2 ^ i)) (eqb b 1)
    (λ h. eq-eqb b 1 (times_one b (2 ^ i) (pow_pos i) (eqb-true (b * 2 ^ i) (2 ^ i) h)))
    (λ h. eq-eqb (b * 2 ^ i) (2 ^ i) (rw (eqb-true b 1 h) (omega arith))))

-- The mask of all bits from bit n on leaves 0 exactly if none of them is set.
pub mask_rest : (j n flags : ℕ) → flags < 2 ^ (j + n) → eqb (bit_and flags (2 ^ (j + n) - 2 ^ n)) 0 ≡ only_first n flags
unfolding only_first
mask_rest j n flags h =
    let q = flags / 2 ^ n in
    rw (and_high flags j n, shr_mod j n h) (same_test (eqb (q * 2 ^ n) 0) (ltb flags (2 ^ n))
    (λ t. lt-ltb flags (2 ^ n) (omega (arith, eqb-true (q * 2 ^ n) 0 t, split flags n, mod-lt flags (pow_pos n))))
    (λ t. eq-eqb (q * 2 ^ n) 0 (rw (div-eq_of_lt (ltb-true flags (2 ^ n) t)) (omega arith))))
