-- A text that is stored with room for all of it, and then copied.
use Rattle.std.specs.Prelude.{ℕ, ◌≤◌, ◌≡◌, List, length, take}
use Rattle.std.proofs.Common.{◌∙◌, arith}
use Rattle.std.proofs.lemmas.List.Edits.{sets}
use Rattle.lists.specs.Slices.{take_sets}

module _ {A : Type 0} where
  -- A text that is stored with room for all of it, and of which the first n bytes, all that it has, are then copied.
  pub copied : (blank full out after text : List A) (n : ℕ) → n ≤ length blank → n ≡ length text
      → full ≡ sets blank 0 text → after ≡ sets out 0 (take n full) → after ≡ sets out 0 text
  copied blank full out after text n h e f g = g ∙ rw (f, e, take_sets blank text (omega arith))
