-- The digits of a number of 64 bits stand for that number, and the first of them is `0` only for 0: `decimal` is the
-- usual form.
use Rattle.std.specs.Prelude.{ℕ, zero, suc, ◌+◌, ◌*◌, ◌-◌, ◌^◌, ◌/◌, ◌≤◌, ◌<◌, ◌≡◌, refl, List, [], ◌∷◌, ◌++◌, ltb}
use Rattle.std.specs.Prelude.{length, get_or}
use Rattle.std.proofs.Common.{arith, pow-suc, length-append, ltb-true, ltb-false}
use Rattle.std.proofs.Math.ListN.{get_or-append}
use Rattle.lists.specs.Bools.{bool_cases}
use Rattle.listing.specs.Listing.{digit, decimal_by, decimal}

-- The number that digits stand for, the highest first, after digits that stand for v.
abbrev pub value_from : ℕ → List ℕ → ℕ
value_from v [] = v
value_from v (d ∷ ds) = value_from (v * 10 + (d - 48)) ds

value_append : (v : ℕ) (ds : List ℕ) (d : ℕ) → value_from v (ds ++ (d ∷ [])) ≡ value_from v ds * 10 + (d - 48)
value_append v [] d = refl
value_append v (x ∷ ds) d = value_append (v * 10 + (x - 48)) ds d

value_by : (k n : ℕ) → n < 10 ^ suc k → value_from 0 (decimal_by k n) ≡ n
value_by zero n h = omega arith
value_by (suc k) n h =
    let p : 10 ^ suc (suc k) ≡ 10 ^ suc k * 10 = pow-suc 10 (suc k) in
    bool_cases (ltb n 10)
    (λ e. let l : n < 10 = ltb-true n 10 e in rw e (omega arith))
    (λ e. let i : value_from 0 (decimal_by k (n / 10)) ≡ n / 10 = value_by k (n / 10) (omega arith) in
    rw (e, value_append 0 (decimal_by k (n / 10)) (digit n), i) (omega arith))

-- The digits stand for the number.
pub decimal_value : (n : ℕ) → n < 2 ^ 64 → value_from 0 (decimal n) ≡ n
unfolding decimal
decimal_value n h = value_by 19 n (omega arith)

some_by : (k n : ℕ) → 0 < length (decimal_by k n)
some_by zero n = omega arith
some_by (suc k) n = bool_cases (ltb n 10)
    (λ e. rw e (omega arith))
    (λ e. rw (e, length-append (decimal_by k (n / 10)) (digit n ∷ [])) (omega arith))

first_by : (k n : ℕ) → 0 < n → n < 10 ^ suc k → 48 < get_or (decimal_by k n) 0 0
first_by zero n z h = omega arith
first_by (suc k) n z h =
    let p : 10 ^ suc (suc k) ≡ 10 ^ suc k * 10 = pow-suc 10 (suc k) in
    bool_cases (ltb n 10)
    (λ e. let l : n < 10 = ltb-true n 10 e in rw e (omega arith))
    (λ e. let l : 10 ≤ n = ltb-false n 10 e in
    rw (e, get_or-append (decimal_by k (n / 10)) (digit n ∷ []) 0 0 (some_by k (n / 10)))
    (first_by k (n / 10) (omega arith) (omega arith)))

-- The first digit of a number that is not 0 is not `0`.
pub decimal_first : (n : ℕ) → 0 < n → n < 2 ^ 64 → 48 < get_or (decimal n) 0 0
unfolding decimal
decimal_first n z h = first_by 19 n z (omega arith)
