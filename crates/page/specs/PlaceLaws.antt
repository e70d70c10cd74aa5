-- What is at a place is what is at the beginning of the bytes from that place on.
use Rattle.std.specs.Prelude.{ℕ, zero, suc, ◌+◌, min, ◌≡◌, refl, List, drop}
use Rattle.std.proofs.Common.{add-zero, drop-drop}
use Rattle.bytes_le.specs.Numbers.{u16_at}
use Rattle.bytes_le.specs.NumberLaws.{u16_drop, u32_drop, u64_drop}
use Rattle.page.specs.Form.{object_form, objects_form, component_marks, records_at}
use Rattle.page.specs.Content.{object_at, objects_at, component_at}

module _ (s : List ℕ) (at : ℕ) where
  -- A number at the place itself.
  u16_from : u16_at s at ≡ u16_at (drop at s) 0
  u16_from = rw (u16_drop at s 0, add-zero)

  -- An object record.
  pub object_from : object_at s at ≡ object_at (drop at s) 0
  unfolding object_at
  object_from = rw (u32_drop at s 4, u64_drop at s 8)

  -- The form of an object record.
  pub object_form_from : object_form s at ≡ object_form (drop at s) 0
  unfolding object_form
  object_form_from = rw (u16_from, u16_drop at s 2)

  -- The number of object records of a component.
  pub records_from : records_at s at ≡ records_at (drop at s) 0
  unfolding records_at
  records_from = rw (u16_drop at s 2, u16_drop at s 6)

  -- The mark and the flags of a component.
  pub marks_from : component_marks s at ≡ component_marks (drop at s) 0
  unfolding component_marks
  marks_from = rw (u16_from, u16_drop at s 2)

-- Object records, one after the other.
pub objects_from : (n : ℕ) (s : List ℕ) (at : ℕ) → objects_at n s at ≡ objects_at n (drop at s) 0
objects_from zero s at = refl
objects_from (suc n) s at =
    rw (object_from s at, objects_from n s (at + 16), objects_from n (drop at s) 16, drop-drop 16 at s)

-- The form of object records, one after the other.
pub objects_form_from : (n : ℕ) (s : List ℕ) (at : ℕ) → objects_form n s at ≡ objects_form n (drop at s) 0
objects_form_from zero s at = refl
objects_form_from (suc n) s at =
    rw (object_form_from s at, objects_form_from n s (at + 16), objects_form_from n (drop at s) 16, drop-drop 16 at s)

-- The object records of a component, and their form.
pub after_from : (n : ℕ) (s : List ℕ) (at : ℕ) → objects_at n s (at + 40) ≡ objects_at n (drop at s) 40
after_from n s at = rw (objects_from n s (at + 40), objects_from n (drop at s) 40, drop-drop 40 at s)

pub after_form_from : (n : ℕ) (s : List ℕ) (at : ℕ) → objects_form n s (at + 40) ≡ objects_form n (drop at s) 40
after_form_from n s at = rw (objects_form_from n s (at + 40), objects_form_from n (drop at s) 40, drop-drop 40 at s)

-- A component.
pub component_from : (s : List ℕ) (at : ℕ) → component_at s at ≡ component_at (drop at s) 0
unfolding component_at
component_from s at = rw (
  u16_drop at s 2,
  u16_drop at s 4,
  u16_drop at s 6,
  u32_drop at s 8,
  u32_drop at s 12,
  u64_drop at s 16,
  u64_drop at s 24,
  u64_drop at s 32,
  records_from s at,
  after_from (min 16 (records_at (drop at s) 0)) s at,
)
