-- The rule of the first target, asked of the object records that are after a component.
use Prim.Native.Nat.{ℕ, zero, suc, ◌+◌, ◌<◌}
use mathlib.Core.Path.{◌≡◌, refl, ap}
use mathlib.Core.List.{List}
use mathlib.Core.Bool.{true, false}
use native.Mathlib.Omega.{arith}
use lib.IntN.{ℤ}
use Rattle.bytes_le.specs.Numbers.{u32_at}
use Rattle.layout.specs.Fields.{is_minus_one, is_target, first_target_ok}
use Rattle.page.specs.Content.{object_at, objects_at}

module _ (z : ℤ) (s : List ℕ) (at : ℕ) where
  pub first_blank : (n : ℕ) → first_target_ok false z (objects_at n s (at + 40)) ≡ is_minus_one z
  unfolding first_target_ok
  first_blank n = refl

  pub first_missing : first_target_ok true z (objects_at 0 s (at + 40)) ≡ false
  unfolding first_target_ok
  first_missing = refl

  -- The first of them has its target 44 bytes after the component's place.
  pub first_after : (n : ℕ) → 0 < n → first_target_ok true z (objects_at n s (at + 40))
      ≡ is_target z (u32_at s (at + 44))
  unfolding first_target_ok object_at
  first_after zero h = absurd (omega arith)
  first_after (suc n) h =
      let e : at + 40 + 4 ≡ at + 44 = omega arith in
      ap (λ (p : ℕ). is_target z (u32_at s p)) e
