-- What std prints of a number is `decimal`, and of a signed number `signed`.
use Rattle.std.specs.Prelude.{ℕ, zero, suc, ◌+◌, ◌^◌, ◌/◌, ◌%◌, ◌≤◌, ◌<◌, ◌≡◌, refl, List, [], ◌∷◌, ◌++◌, ℤ, pos}
use Rattle.std.specs.Prelude.{negsuc, FitsSigned}
use Rattle.std.specs.Int.{w32}
use Rattle.std.specs.Fmt.{decimal as printed, signed_decimal}
use Rattle.std.proofs.Common.{sym, ap, arith, lt-ltb, le-ltb}
use Rattle.std.proofs.lemmas.Fmt.{decimal_from_appends, length-decimal-le}
use Rattle.listing.specs.Listing.{digit, decimal_by, decimal, signed}

-- The digits of a number that has at most k of them.
abbrev front : ℕ → ℕ → List ℕ
front zero n = []
front (suc k) n = decimal_by k n

one_digit : (k n : ℕ) → n < 10 → front (suc k) n ≡ (48 + n) ∷ []
one_digit zero n h = let e : digit n ≡ 48 + n = omega arith in rw e
one_digit (suc k) n h = let e : digit n ≡ 48 + n = omega arith in rw (lt-ltb n 10 h, e)

more_digits : (k n : ℕ) → 10 ≤ n → front (suc k) n ≡ front k (n / 10) ++ ((48 + n % 10) ∷ [])
more_digits zero n h = refl
more_digits (suc k) n h = rw (le-ltb n 10 h)

pub printed-decimal : (n : ℕ) → n < 2 ^ 64 → printed n ≡ decimal n
unfolding decimal
printed-decimal n h =
    sym (decimal_from_appends front (record { one = one_digit; more = more_digits }) 20 n h
    (length-decimal-le 20 n (omega arith) (omega arith) h))

pub printed-signed : (z : ℤ) → FitsSigned w32 z → signed_decimal z ≡ signed z
unfolding signed
printed-signed (pos n) f = printed-decimal n (omega (arith, f.sfits))
printed-signed (negsuc n) f = ap (λ (ds : List ℕ). 45 ∷ ds) (printed-decimal (suc n) (omega (arith, f.sfits)))
