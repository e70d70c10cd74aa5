-- Tests of a signed number, asked of its 32 bits.
use Prim.Native.Nat.{ℕ, suc, ◌-◌, ◌<◌}
use mathlib.Core.Path.{◌≡◌, refl}
use native.Mathlib.Omega.{arith}
use lib.IntN.{ℤ, pos, negsuc}
use lib.Dec.{eqb}
use mir.Syntax.{w32, w64}
use mir.Val.{SFits, of_z}
use borrow.Author.Tests.{eq-eqb, ne_eqb, eqb-true, eqb-false}
use Rattle.lists.specs.Bools.{bool_cases}
use Rattle.layout.specs.Fields.{is_minus_one, is_target}

pub minus_one_bits : (z : ℤ) → SFits w32 z → eqb (of_z w32 z) 4294967295 ≡ is_minus_one z
unfolding is_minus_one
minus_one_bits (pos n) f = ne_eqb n 4294967295 (λ e. omega (arith, f.sfits))
minus_one_bits (negsuc n) f = bool_cases (eqb n 0)
    (λ e. rw e (eq-eqb (4294967296 - suc n) 4294967295 (omega (arith, eqb-true n 0 e))))
    (λ e. rw e (ne_eqb (4294967296 - suc n) 4294967295 (λ h. eqb-false n 0 e (omega (arith, f.sfits)))))

pub target_bits : (z : ℤ) (t : ℕ) → SFits w32 z → t < 4294967296 → eqb (of_z w64 z) (of_z w64 (pos t)) ≡ is_target z t
unfolding is_target
target_bits (pos n) t f h = refl
target_bits (negsuc n) t f h = ne_eqb (18446744073709551616 - suc n) t (λ e. omega (arith, f.sfits))
