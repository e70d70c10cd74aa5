-- The laws of round-robin striping, each once over any stripe size z and stripe count s.
use Rattle.std.specs.Prelude.{ℕ, ◌+◌, ◌-◌, ◌*◌, ◌/◌, ◌%◌, ◌^◌, ◌≤◌, ◌<◌, ◌≡◌, leb}
use Rattle.std.specs.Option.{is_some}
use Rattle.std.proofs.Common.{inl, inr, leb-true, ◌∙◌, arith}
use Rattle.std.proofs.Common.{add-mul, mul-le-mul_right, div-add-mod', div-le_self, mod-lt, mod-eq_of_lt}
use Rattle.std.proofs.Math.Nat.{div-eq_of_lt, mul-add-div_right, mul-add-mod_self_right}
use Rattle.std.proofs.lemmas.Bool.{cases_Bool, cases_lt, le-leb}
use Rattle.stripe.specs.Stripe.{unit_of, stripe_of, object_byte, file_byte, file_byte_below}
use Rattle.stripe.specs.Laws.{last_unit, told_below, file_byte_below_lem, file_byte_some, file_byte_none}

-- q whole blocks of m and r more, with r below m: the quotient by m is q.
quotient : (m q r : ℕ) → r < m → (q * m + r) / m ≡ q
quotient m q r h = mul-add-div_right (omega arith) q r ∙ omega (arith, div-eq_of_lt h)

-- q whole blocks of m and r more, with r below m: the remainder by m is r.
remainder : (m q r : ℕ) → r < m → (q * m + r) % m ≡ r
remainder m q r h = mul-add-mod_self_right q m r ∙ mod-eq_of_lt h

-- d more than n, in n's block: the quotient stays.
quotient_within : (m n d : ℕ) → n % m + d < m → (n + d) / m ≡ n / m
quotient_within m n d h =
    let e : n + d ≡ n / m * m + (n % m + d) = omega (arith, div-add-mod' n m) in
    rw e (quotient m (n / m) (n % m + d) h)

-- d more than n, in n's block: the remainder is d more.
remainder_within : (m n d : ℕ) → n % m + d < m → (n + d) % m ≡ n % m + d
remainder_within m n d h =
    let e : n + d ≡ n / m * m + (n % m + d) = omega (arith, div-add-mod' n m) in
    rw e (remainder m (n / m) (n % m + d) h)

-- d more than n, where the next block begins: it is one block and nothing more.
next_block : (m n d : ℕ) → n % m + d ≡ m → n + d ≡ (n / m + 1) * m + 0
next_block m n d h = omega (arith, div-add-mod' n m, add-mul (n / m) 1 m)

-- d more than n, where the next block begins: the quotient is one more.
quotient_next : (m n d : ℕ) → 0 < m → n % m + d ≡ m → (n + d) / m ≡ n / m + 1
quotient_next m n d hm h = rw (next_block m n d h) (quotient m (n / m + 1) 0 hm)

-- d more than n, where the next block begins: the remainder is 0.
remainder_next : (m n d : ℕ) → 0 < m → n % m + d ≡ m → (n + d) % m ≡ 0
remainder_next m n d hm h = rw (next_block m n d h) (remainder m (n / m + 1) 0 hm)

-- A stripe is below the stripe count.
pub stripe_below : (z s o : ℕ) → 0 < s → stripe_of z s o < s
unfolding stripe_of
stripe_below z s o hs = omega (arith, mod-lt (unit_of z o) hs)

-- An object byte is at most its file byte.
pub object_byte_le : (z s o : ℕ) → object_byte z s o ≤ o
unfolding object_byte unit_of
object_byte_le z s o = omega (arith, div-add-mod' o z, mul-le-mul_right z (div-le_self (o / z) s))

-- Back from the stripe and the object byte of a file byte is that file byte.
pub back_of_home : (z s o : ℕ) → 0 < z → file_byte z s (stripe_of z s o) (object_byte z s o) ≡ o
unfolding file_byte stripe_of object_byte unit_of
back_of_home z s o hz =
    let r = mod-lt o hz in
    rw (quotient z (o / z / s) (o % z) r, remainder z (o / z / s) (o % z) r, div-add-mod' (o / z) s) (div-add-mod' o z)

-- The stripe and the object byte of the file byte back from stripe i and object byte p are i and p.
pub home_of_back : (z s i p : ℕ) → 0 < z → i < s →
    (stripe_of z s (file_byte z s i p) ≡ i) × (object_byte z s (file_byte z s i p) ≡ p)
unfolding file_byte stripe_of object_byte unit_of
home_of_back z s i p hz hi =
    let r = mod-lt p hz in
    let k = quotient z (p / z * s + i) (p % z) r in (
      rw k (remainder s (p / z) i hi),
      rw (k, remainder z (p / z * s + i) (p % z) r, quotient s (p / z) i hi) (div-add-mod' p z),
    )

-- Two file bytes with the same stripe and the same object byte are the same.
pub home_injective : (z s o o' : ℕ) → 0 < z →
    stripe_of z s o ≡ stripe_of z s o' → object_byte z s o ≡ object_byte z s o' → o ≡ o'
home_injective z s o o' hz i p = cc (back_of_home z s o hz, back_of_home z s o' hz)

-- Within a unit, d bytes on: the unit stays.
pub unit_within : (z o d : ℕ) → o % z + d < z → unit_of z (o + d) ≡ unit_of z o
unfolding unit_of
unit_within z o d h = quotient_within z o d (omega arith)

-- Within a unit, d bytes on: the stripe stays.
pub stripe_within : (z s o d : ℕ) → o % z + d < z → stripe_of z s (o + d) ≡ stripe_of z s o
unfolding stripe_of
stripe_within z s o d h = rw (unit_within z o d h)

-- Within a unit, d bytes on: the object byte is d more.
pub object_byte_within : (z s o d : ℕ) → o % z + d < z → object_byte z s (o + d) ≡ object_byte z s o + d
unfolding object_byte
object_byte_within z s o d h = rw (unit_within z o d h, remainder_within z o d h) (omega arith)

-- At the first byte of the next unit: the unit is one more.
pub unit_next : (z o d : ℕ) → 0 < z → o % z + d ≡ z → unit_of z (o + d) ≡ unit_of z o + 1
unfolding unit_of
unit_next z o d hz h = quotient_next z o d hz h

-- At the first byte of the next unit: it is at a multiple of the stripe size.
pub unit_next_begin : (z o d : ℕ) → 0 < z → o % z + d ≡ z → (o + d) % z ≡ 0
unit_next_begin z o d hz h = remainder_next z o d hz h

-- After any stripe but the last, the next unit is on the next stripe, at the same unit of its object.
pub next_on_next_stripe : (z s o d : ℕ) → 0 < z → o % z + d ≡ z → stripe_of z s o + 1 < s →
    (stripe_of z s (o + d) ≡ stripe_of z s o + 1) × (object_byte z s (o + d) ≡ unit_of z o / s * z)
unfolding stripe_of object_byte
next_on_next_stripe z s o d hz h hs = (
  rw (unit_next z o d hz h) (remainder_within s (unit_of z o) 1 hs),
  rw (unit_next z o d hz h, quotient_within s (unit_of z o) 1 hs, unit_next_begin z o d hz h) (omega arith),
)

-- After the last stripe, the next unit is on stripe 0, at the next unit of its object.
pub next_on_first_stripe : (z s o d : ℕ) → 0 < z → o % z + d ≡ z → stripe_of z s o + 1 ≡ s →
    (stripe_of z s (o + d) ≡ 0) × (object_byte z s (o + d) ≡ (unit_of z o / s + 1) * z)
unfolding stripe_of object_byte
next_on_first_stripe z s o d hz h hs =
    let p : 0 < s = omega arith in (
      rw (unit_next z o d hz h) (remainder_next s (unit_of z o) 1 p hs),
      rw (unit_next z o d hz h, quotient_next s (unit_of z o) 1 p hs, unit_next_begin z o d hz h) (omega arith),
    )

-- The two tests of the law on when a file byte is below a bound tell whether there is one below 2^64.
pub told_some : (z s i p : ℕ) → 0 < z → 0 < s → p % z < 2 ^ 64
    → is_some (file_byte_below z s i p) ≡ told_below (2 ^ 64) z s i p
unfolding told_below
told_some z s i p hz hs hp =
    let k = file_byte_below_lem (2 ^ 64) z s i p hz hs hp in
    let last = last_unit (2 ^ 64) z p in
    let a = leb i last in
    let b = leb (p / z) ((last - i) / s) in
    elim (cases_lt (file_byte z s i p) (2 ^ 64)) [
      | inl h ↦
          let t = k.0 h in
          rw (file_byte_some z s i p h, le-leb i last t.0, le-leb (p / z) ((last - i) / s) t.1)
      | inr h ↦
          let none = file_byte_none z s i p (λ f. omega (arith, f, h)) in
          elim (cases_Bool a) [
            | inr e ↦ rw (none, e)
            | inl e ↦ elim (cases_Bool b) [
              | inr f ↦ rw (none, e, f)
              | inl f ↦ absurd (omega (arith, h, k.1 (leb-true i last e, leb-true (p / z) ((last - i) / s) f)))
            ]
          ]
    ]
