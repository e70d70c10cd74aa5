-- Laws of numbers in decimal.
use Rattle.std.specs.Prelude.{ℕ, zero, suc, ◌+◌, ◌*◌, ◌^◌, ◌/◌, ◌≤◌, ◌<◌, ◌≡◌, List, [], ◌∷◌, ◌++◌, ltb, length}
use Rattle.std.proofs.Common.{sym, ap, ◌∙◌, arith, pow-suc, length-append, lt-ltb, le-ltb}
use Rattle.lists.specs.Bools.{bool_cases}
use Rattle.listing.specs.Listing.{digit, decimal_by, decimal}

-- Once a number has no more digits than are allowed, one more changes nothing.
by_more : (k n : ℕ) → n < 10 ^ suc k → decimal_by (suc k) n ≡ decimal_by k n
by_more zero n h = rw (lt-ltb n 10 h)
by_more (suc k) n h =
    let p : 10 ^ suc (suc k) ≡ 10 ^ suc k * 10 = pow-suc 10 (suc k) in
    bool_cases (ltb n 10)
    (λ e. rw e)
    (λ e. rw (e, by_more k (n / 10) (omega arith)))

-- A number below ten is one digit,
pub decimal_one : (n : ℕ) → n < 10 → decimal n ≡ digit n ∷ []
unfolding decimal
decimal_one n h = rw (lt-ltb n 10 h)

-- and any other of 64 bits its tenth, rounded down, and its last digit.
pub decimal_more : (n : ℕ) → 10 ≤ n → n < 2 ^ 64 → decimal n ≡ decimal (n / 10) ++ (digit n ∷ [])
unfolding decimal
decimal_more n h k =
    rw (le-ltb n 10 h) (ap (λ (ds : List ℕ). ds ++ (digit n ∷ [])) (sym (by_more 18 (n / 10) (omega arith))))

-- The number of digits, by the same two cases.
pub length_one : (n : ℕ) → n < 10 → length (decimal n) ≡ 1
length_one n h = ap length (decimal_one n h)

pub length_more : (n : ℕ) → 10 ≤ n → n < 2 ^ 64 → length (decimal n) ≡ length (decimal (n / 10)) + 1
length_more n h k = ap length (decimal_more n h k) ∙ length-append (decimal (n / 10)) (digit n ∷ [])

-- There are never more digits than are allowed.
length_by : (k n : ℕ) → length (decimal_by k n) ≤ suc k
length_by zero n = omega arith
length_by (suc k) n = bool_cases (ltb n 10)
    (λ e. rw e (omega arith))
    (λ e. rw (e, length-append (decimal_by k (n / 10)) (digit n ∷ [])) (omega (arith, length_by k (n / 10))))

pub length_decimal : (n : ℕ) → length (decimal n) ≤ 20
unfolding decimal
length_decimal n = length_by 19 n
