-- When a file byte is below a bound, over any stripe size z and stripe count s. The other laws are in proofs/Laws.antt.
use Rattle.std.specs.Prelude.{ℕ, ◌+◌, ◌-◌, ◌*◌, ◌/◌, ◌%◌, ◌^◌, ◌≤◌, ◌<◌, ◌↔◌, ◌≡◌, None, Some, Bool, leb, ◌&&◌}
use Rattle.std.proofs.Common.{lt-ltb, le-ltb, le-div_iff_mul-le, arith}
use Rattle.stripe.specs.Stripe.{file_byte, file_byte_below}

-- The last unit of the file whose byte p mod z is below b, if there is one.
unfoldable pub last_unit : ℕ → ℕ → ℕ → ℕ
last_unit b z p = (b - 1 - p % z) / z

-- A file byte is below b exactly if its unit is at most that one, tested of i and p / z with nothing multiplied.
pub file_byte_below_lem : (b z s i p : ℕ) → 0 < z → 0 < s → p % z < b →
    (file_byte z s i p < b) ↔ ((i ≤ last_unit b z p) × (p / z ≤ (last_unit b z p - i) / s))
unfolding file_byte last_unit
file_byte_below_lem b z s i p hz hs hb = (
  λ h.
      let k : p / z * s + i ≤ last_unit b z p = (le-div_iff_mul-le hz).1 (omega arith) in
      (omega arith, (le-div_iff_mul-le hs).1 (omega arith)),
  λ t.
      let k : p / z * s ≤ last_unit b z p - i = (le-div_iff_mul-le hs).0 t.1 in
      let u : p / z * s + i ≤ last_unit b z p = omega (arith, t.0) in
      omega (arith, (le-div_iff_mul-le hz).0 u),
)

-- The two tests of that law: of a stripe i and an object byte p, is the file byte below b? At 2^64 they tell whether
-- there is a file byte (`told_some` in proofs/Laws.antt).
unfoldable pub told_below : ℕ → ℕ → ℕ → ℕ → ℕ → Bool
told_below b z s i p = leb i (last_unit b z p) && leb (p / z) ((last_unit b z p - i) / s)

-- If the file byte is below 2^64, `file_byte_below` is `Some` of it.
pub file_byte_some : (z s i p : ℕ) → file_byte z s i p < 2 ^ 64 → file_byte_below z s i p ≡ Some (file_byte z s i p)
unfolding file_byte_below
file_byte_some z s i p h = rw (lt-ltb (file_byte z s i p) (2 ^ 64) h)

-- If the file byte is not below 2^64, `file_byte_below` is `None`.
pub file_byte_none : (z s i p : ℕ) → (file_byte z s i p < 2 ^ 64 → ⊥) → file_byte_below z s i p ≡ None
unfolding file_byte_below
file_byte_none z s i p h = rw (le-ltb (file_byte z s i p) (2 ^ 64) (omega arith))
