-- The fields of the component at a place are the numbers that are there, and its object records are those after it.
use Rattle.std.specs.Prelude.{ℕ, zero, suc, ◌+◌, ◌*◌, ◌<◌, ◌≤◌, min, ◌≡◌, List, Bool, length, get_or}
use Rattle.std.proofs.Math.Path.{refl}
use Rattle.std.proofs.Common.{ap, sym, ◌∙◌, arith}
use Rattle.bytes_le.specs.Numbers.{u16_at, u32_at, u64_at}
use Rattle.bytes_le.specs.Flags.{is_set}
use Rattle.layout.specs.Records.{no_object, count_of, records_of}
use Rattle.layout.specs.Facts.{IsInit}
use Rattle.page.specs.Form.{records_at, component_end}
use Rattle.page.specs.Content.{object_at, objects_at, component_at}
use Rattle.in_place.specs.RecordLaws.{component_count, component_records, records_length}

module _ (s : List ℕ) (at : ℕ) where
  pub init_at_lem : (component_at s at).init ≡ is_set 0 (u16_at s (at + 2))
  unfolding component_at
  init_at_lem = refl

  pub stripe_count_at : (component_at s at).stripe_count ≡ u16_at s (at + 6)
  unfolding component_at
  stripe_count_at = refl

  pub stripe_size_at : (component_at s at).stripe_size ≡ u32_at s (at + 8)
  unfolding component_at
  stripe_size_at = refl

  pub begin_at : (component_at s at).begin ≡ u64_at s (at + 16)
  unfolding component_at
  begin_at = refl

  pub end_at : (component_at s at).end ≡ u64_at s (at + 24)
  unfolding component_at
  end_at = refl

-- The object record at position i of the n from a place on.
pub object_of_lem : (n : ℕ) (s : List ℕ) (at i : ℕ) → i < n → get_or (objects_at n s at) i no_object ≡ object_at s (at + 16 * i)
object_of_lem zero s at i h = absurd (omega arith)
object_of_lem (suc n) s at zero h = ap (object_at s) (omega arith)
object_of_lem (suc n) s at (suc i) h =
    let e : at + 16 + 16 * i ≡ at + 16 * suc i = omega arith in
    object_of_lem n s (at + 16) i (omega arith) ∙ ap (object_at s) e

-- Object record i of the component at a place.
module _ (s : List ℕ) (at i : ℕ) (h : i < length (records_of (component_at s at))) where
  -- It is the i-th after the component,
  pub record_placed : get_or (records_of (component_at s at)) i no_object ≡ object_at s (at + 40 + 16 * i)
  record_placed =
      let below : i < min 16 (records_at s at) = omega (arith, records_length s at) in
      rw component_records (object_of_lem (min 16 (records_at s at)) s (at + 40) i below)

  -- and ends by the end of the component.
  pub record_within : at + 40 + 16 * i + 16 ≤ component_end s at
  record_within = omega (arith, records_length s at)

-- An init component at a place.
module _ (s : List ℕ) (at : ℕ) (k : IsInit (component_at s at)) where
  -- As many object records are after it as it has stripes.
  pub init_count : records_at s at ≡ (component_at s at).stripe_count
  init_count =
      sym (component_count s at)
      ∙ ap (λ (init : Bool). count_of init (component_at s at).stripe_count) k.init

  -- The object record of stripe i is the i-th after it.
  pub stripe_object_lem : (i : ℕ) → i < (component_at s at).stripe_count
      → get_or (records_of (component_at s at)) i no_object ≡ object_at s (at + 40 + 16 * i)
  stripe_object_lem i h =
      let below : i < min 16 (records_at s at) = omega (arith, init_count, k.striped.few) in
      rw component_records (object_of_lem (min 16 (records_at s at)) s (at + 40) i below)
