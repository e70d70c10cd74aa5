-- The object records of a component are those that are after it in the bytes.
use Rattle.std.specs.Prelude.{ℕ, zero, suc, ◌+◌, ◌≤◌, ◌<◌, min, ◌≡◌, List, leb, length, take}
use Rattle.std.proofs.Math.Path.{refl}
use Rattle.std.proofs.Common.{ap, sym, ◌∙◌, arith, take_all, leb-true, leb-false}
use Rattle.lists.specs.Bools.{bool_cases}
use Rattle.layout.specs.declared.Object.{Object}
use Rattle.layout.specs.Records.{record_count, records_of, pack_objects}
use Rattle.layout.specs.RecordLaws.{pack_objects_length, records_pack}
use Rattle.page.specs.Form.{records_at}
use Rattle.page.specs.Content.{objects_at, component_at}

-- There are as many as are read.
pub length_objects_at : (n : ℕ) (s : List ℕ) (at : ℕ) → length (objects_at n s at) ≡ n
length_objects_at zero s at = refl
length_objects_at (suc n) s at = ap suc (length_objects_at n s (at + 16))

module _ (s : List ℕ) (at : ℕ) where
  -- The component is to have as many as are after it.
  pub component_count : record_count (component_at s at) ≡ records_at s at
  unfolding component_at records_at
  component_count = refl

  -- Those of them that a component has room for.
  abbrev pub records_kept : List Object
  records_kept = objects_at (min 16 (records_at s at)) s (at + 40)

  component_objects : (component_at s at).objects ≡ pack_objects records_kept
  unfolding component_at
  component_objects = refl

  taken : (n : ℕ) → let os = objects_at (min 16 n) s (at + 40) in take n (pack_objects os) ≡ os
  taken n =
      let os = objects_at (min 16 n) s (at + 40) in
      let len = length_objects_at (min 16 n) s (at + 40) in
      let full : take (length os) (pack_objects os) ≡ os = records_pack os (omega arith) in
      bool_cases (leb n 16)
      (λ e. let h : n ≤ 16 = leb-true n 16 e in
      let k : length os ≡ n = omega arith in
      rw k at full)
      (λ e. let h : 16 < n = leb-false n 16 e in
      let k : length os ≡ 16 = omega arith in
      let w = pack_objects_length os in
      take_all n (pack_objects os) (omega arith) ∙ sym (take_all 16 (pack_objects os) (omega arith)) ∙ rw k at full)

  -- These are its object records.
  pub component_records : records_of (component_at s at) ≡ records_kept
  component_records = rw (component_count, component_objects) (taken (records_at s at))

  -- There are as many as are kept.
  pub records_length : length (records_of (component_at s at)) ≡ min 16 (records_at s at)
  records_length = ap length component_records ∙ length_objects_at (min 16 (records_at s at)) s (at + 40)
