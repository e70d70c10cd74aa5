-- The loops over the n object records from a place on: at turn i the record there is left, and those left at turn i +
-- 1.
use Prim.Native.Nat.{ℕ, zero, suc, ◌+◌, ◌*◌, ◌-◌, ◌≤◌, ◌<◌}
use mathlib.Core.Path.{◌≡◌, refl, ◌∙◌}
use mathlib.Core.List.{List, [], ◌∷◌}
use native.Mathlib.Omega.{arith}
use native.Mathlib.Nat.{add-zero}
use Rattle.std.specs.List.{range_with_len}
use Rattle.lists.specs.Tests.{every, each}
use Rattle.page.specs.Form.{object_form, objects_form}
use Rattle.page.specs.Content.{object_at, objects_at}

-- The number of records that are left before a turn, and past the last.
pub turn : (n i : ℕ) → i < n → n - i ≡ suc (n - (i + 1))
turn n i h = omega arith

pub done : (n i : ℕ) → n ≤ i → n - i ≡ 0
done n i h = omega arith

-- Where the next object record is.
next_place : (at i : ℕ) → at + 16 * i + 16 ≡ at + 16 * (i + 1)
next_place at i = omega arith

-- All of n records have their form if the record at each of the n places has.
every_from : (s : List ℕ) (at i n : ℕ)
    → every (each (λ k. object_form s (at + 16 * k)) (range_with_len i n)) ≡ objects_form n s (at + 16 * i)
every_from s at i zero = refl
every_from s at i (suc n) = rw (every_from s at (i + 1) n, next_place at i)

pub objects_form_every : (s : List ℕ) (at n : ℕ)
    → every (each (λ k. object_form s (at + 16 * k)) (range_with_len 0 n)) ≡ objects_form n s at
objects_form_every s at n = every_from s at 0 n ∙ rw add-zero

module _ (s : List ℕ) (at n i : ℕ) where
  pub objects_at_turn : i < n
      → objects_at (n - i) s (at + 16 * i) ≡ object_at s (at + 16 * i) ∷ objects_at (n - (i + 1)) s (at + 16 * (i + 1))
  objects_at_turn h = rw (turn n i h, next_place at i)

  pub objects_at_done : n ≤ i → objects_at (n - i) s (at + 16 * i) ≡ []
  objects_at_done h = rw (done n i h)
