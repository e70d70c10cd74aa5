-- What it means that a request to cut is accepted.
use Rattle.std.specs.Prelude.{ℕ, ◌+◌, ◌-◌, ◌/◌, ◌^◌, ◌≤◌, ◌<◌, ◌≡◌, refl, List, Bool, true, false, cond, ◌&&◌, ltb}
use Rattle.std.proofs.Common.{arith, ltb-false, lt-ltb}
use Rattle.lists.specs.Bools.{both_false}
use Rattle.lists.specs.Tests.{any_of}
use Rattle.mapping.specs.declared.Span.{Span}
use Rattle.mapping.specs.Cutting.{piece_count, not_init_asked, too_many, refusal_by}

-- None of 9 to 12 applies to the request of m bytes from offset a with n lent numbers, of components whose last one
-- ends at `end`.
pub record Accepted (end a m n : ℕ) (xs : List Span) : Type 0 where
  -- The request ends at or below 2^64 - 1.
  pub below : a + m ≤ 2 ^ 64 - 1
  -- If it has a byte, it ends at or before the last component's end.
  pub covered : 0 < m → a + m ≤ end
  -- It has no byte in a component that is not init.
  pub all_init : any_of (not_init_asked a (a + m)) xs ≡ false
  -- There are at most 256 pieces, and five numbers are lent for each.
  pub few : piece_count a (a + m) xs ≤ 256
  pub room : piece_count a (a + m) xs ≤ n / 5

-- A chain of four tests gives no number only if all of them fail.
none_given : (t₉ t₁₀ t₁₁ t₁₂ : Bool) → cond {A = ℕ} t₉ 9 (cond t₁₀ 10 (cond t₁₁ 11 (cond t₁₂ 12 0))) ≡ 0
    → (t₉ ≡ false) × (t₁₀ ≡ false) × (t₁₁ ≡ false) × (t₁₂ ≡ false)
none_given true t₁₀ t₁₁ t₁₂ e = absurd (omega arith)
none_given false true t₁₁ t₁₂ e = absurd (omega arith)
none_given false false true t₁₂ e = absurd (omega arith)
none_given false false false true e = absurd (omega arith)
none_given false false false false e = (refl, refl, refl, refl)

-- A request without the number of a refusal is accepted.
pub accepted_facts : (end a m n : ℕ) (xs : List Span) → refusal_by end a m n xs ≡ 0 → Accepted end a m n xs
unfolding refusal_by too_many
accepted_facts end a m n xs e =
    let k = piece_count a (a + m) xs in
    let p = none_given (ltb (2 ^ 64 - 1) (a + m)) (ltb 0 m && ltb end (a + m))
    (any_of (not_init_asked a (a + m)) xs) (too_many n k) e in
    let q = both_false (ltb 256 k) (ltb (n / 5) k) p.3 in
    record {
      below = ltb-false (2 ^ 64 - 1) (a + m) p.0;
      covered = λ h. ltb-false end (a + m) (rw (lt-ltb 0 m h) at p.1);
      all_init = p.2;
      few = ltb-false 256 k q.0;
      room = ltb-false (n / 5) k q.1;
    }
