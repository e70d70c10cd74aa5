-- The rule of the targets, asked of the record at each place.
use Rattle.std.proofs.Common.{ℕ, zero, suc, ◌+◌, ◌*◌, ◌≡◌, refl, ◌∙◌, List, arith}
use native.Mathlib.Nat.{add-zero}
use Rattle.std.specs.List.{range_with_len}
use Rattle.lists.specs.Tests.{every, each}
use Rattle.layout.specs.Fields.{target_ok}
use Rattle.page.specs.Content.{object_at, objects_at}

next_place : (at i : ℕ) → at + 16 * i + 16 ≡ at + 16 * (i + 1)
next_place at i = omega arith

every_from : (s : List ℕ) (at i n : ℕ)
    → every (each (λ k. target_ok (object_at s (at + 16 * k))) (range_with_len i n))
    ≡ every (each target_ok (objects_at n s (at + 16 * i)))
every_from s at i zero = refl
every_from s at i (suc n) = rw (every_from s at (i + 1) n, next_place at i)

-- All targets of n records pass if that of the record at each of the n places does.
pub targets_every : (s : List ℕ) (at n : ℕ)
    → every (each (λ k. target_ok (object_at s (at + 16 * k))) (range_with_len 0 n))
    ≡ every (each target_ok (objects_at n s at))
targets_every s at n = every_from s at 0 n ∙ rw add-zero
