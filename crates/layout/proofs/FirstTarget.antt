-- The rule of the first target, asked of what is found in the first place of the object records.
use Rattle.std.specs.Prelude.{◌≡◌, List, [], ◌∷◌, Some, None, Bool, true, false, ℤ, slice_get}
use Rattle.layout.specs.declared.Object.{Object}
use Rattle.layout.specs.Fields.{is_target, first_target_ok}

-- With no first record the answer is no, else what is asked of the first.
pub first_if : (init : Bool) (z : ℤ) (os : List Object) (r : Bool) → init ≡ true → (None ≡ slice_get os 0 → r ≡ false)
    → ((o : Object) → Some o ≡ slice_get os 0 → r ≡ is_target z o.target) → r ≡ first_target_ok init z os
unfolding first_target_ok
first_if init z [] r k n s = rw k (n cc)
first_if init z (o ∷ os) r k n s = rw k (s o cc)
