-- What is read is written again: "rewriting a reading gives the same bytes ..". What is in a page that has its form
-- is written as the bytes that it was read from, and fits a page. Each component is to have at most 16 object records,
-- as all are that keep refusal 6's rule.
use Rattle.std.specs.Prelude.{ℕ, zero, suc, ◌+◌, ◌*◌, ◌^◌, ◌≤◌, ◌<◌, min, ◌≡◌, refl, true, false, ◌&&◌, leb, eqb, get_or, drop}
use Rattle.std.proofs.Math.Path.{sym, ap}
use Rattle.std.proofs.Common.{◌∙◌, arith, add-zero, take-append-drop, length-drop, take-add, drop-drop}
use mathlib.Core.List.{List, [], ◌∷◌, ◌++◌, map, append_assoc, append-nil}
use Rattle.std.proofs.Math.Nat.{min-eq_right}
use Rattle.std.proofs.Math.ListN.{length, take}
use Rattle.std.proofs.Math.Seq.{drop-length}
use borrow.Author.Tests.{leb-true, eqb-true}
use Rattle.std.proofs.Math.Facts.{sfits_to_z}
use Rattle.std.specs.Int.{w32}
use Rattle.lists.specs.Bools.{both_true}
use Rattle.lists.specs.Tests.{conjunction_at}
use Rattle.bytes_le.specs.Numbers.{AreBytes, u16_at, u32_at, i32_at, i32_of, bits_of, u16_bytes, u32_bytes}
use Rattle.bytes_le.specs.NumberLaws.{u16_again, u32_again, u64_again, u16_below, u32_below, u64_below, signed_bits}
use Rattle.bytes_le.specs.NumberLaws.{bytes_drop}
use Rattle.bytes_le.specs.Flags.{is_set, only_first, flag_word}
use Rattle.bytes_le.specs.FlagLaws.{words_two, words_one}
use Rattle.layout.specs.declared.Object.{Object}
use Rattle.layout.specs.declared.Component.{Component}
use Rattle.layout.specs.Records.{no_object, record_count, records_of, pack_objects}
use Rattle.layout.specs.RecordLaws.{records_pack}
use Rattle.page.specs.Form.{object_form, objects_form, component_marks, records_at, component_end, component_form}
use Rattle.page.specs.Form.{components_form, places_from, end_from, head_form, counted, page_end, form_by, page_form}
use Rattle.page.specs.Content.{object_at, objects_at, component_at, head_of, components_of}
use Rattle.page.specs.Bytes.{object_bytes, objects_bytes, words, longs, field_bytes, component_bytes, size_of}
use Rattle.page.specs.Bytes.{components_bytes, head_bytes, page_bytes}
use Rattle.page.specs.Same.{trimmed, NumbersFit, Fits, AllFit, FitsHead, Few}
use Rattle.page.specs.BytesLaws.{total}
use Rattle.page.specs.FormLaws.{length_components, form_room, form_head, form_components, some_components}
use Rattle.page.specs.FormLaws.{page_by, page_ends}
use Rattle.page.specs.PlaceLaws.{object_from, object_form_from, marks_from, component_from}

-- Two parts of the bytes, one after the other, are one.
joined : (s : List ℕ) (at n m : ℕ) {a b : List ℕ} → a ≡ take n (drop at s) → b ≡ take m (drop (at + n) s)
    → a ++ b ≡ take (n + m) (drop at s)
joined s at n m p q = rw (p, q, take-add n m (drop at s), drop-drop n at s)

-- An object record at the beginning of the bytes.
module _ (s : List ℕ) (b : AreBytes s) (h : 16 ≤ length s) where
  object_first : object_form s 0 ≡ true → object_bytes (object_at s 0) ≡ take 16 s
  unfolding object_form object_bytes object_at
  object_first e =
      let p = both_true (eqb (u16_at s 0) 0x424F) (eqb (u16_at s 2) 0) e in
      let mark : u16_bytes 0x424F ≡ take 2 s =
      ap u16_bytes (sym (eqb-true (u16_at s 0) 0x424F p.0)) ∙ u16_again s 0 b (omega arith) in
      let zeros : u16_bytes 0 ≡ take 2 (drop 2 s) =
      ap u16_bytes (sym (eqb-true (u16_at s 2) 0 p.1)) ∙ u16_again s 2 b (omega arith) in
      let target = u32_again s 4 b (omega arith) in
      let number = u64_again s 8 b (omega arith) in
      joined s 0 8 8 (joined s 0 4 4 (joined s 0 2 2 mark zeros) target) number

-- The 40 bytes of a component at the beginning of the bytes.
module _ (s : List ℕ) (b : AreBytes s) (h : 40 ≤ length s) where
  fields_first : component_marks s 0 ≡ true → field_bytes (component_at s 0) ≡ take 40 s
  unfolding component_marks field_bytes words longs component_at
  fields_first e =
      let p = both_true (eqb (u16_at s 0) 0x5043) (only_first 2 (u16_at s 2)) e in
      let mark : u16_bytes 0x5043 ≡ take 2 s =
      ap u16_bytes (sym (eqb-true (u16_at s 0) 0x5043 p.0)) ∙ u16_again s 0 b (omega arith) in
      let flags : u16_bytes (flag_word (is_set 0 (u16_at s 2)) (is_set 1 (u16_at s 2))) ≡ take 2 (drop 2 s) =
      ap u16_bytes (words_two (u16_at s 2) p.1) ∙ u16_again s 2 b (omega arith) in
      let id = u16_again s 4 b (omega arith) in
      let count = u16_again s 6 b (omega arith) in
      let size = u32_again s 8 b (omega arith) in
      let first : u32_bytes (bits_of (i32_at s 12)) ≡ take 4 (drop 12 s) =
      ap u32_bytes (signed_bits (u32_at s 12) (u32_below s 12 b)) ∙ u32_again s 12 b (omega arith) in
      let begin = u64_again s 16 b (omega arith) in
      let end = u64_again s 24 b (omega arith) in
      let extension = u64_again s 32 b (omega arith) in
      let four = joined s 0 6 2 (joined s 0 4 2 (joined s 0 2 2 mark flags) id) count in
      let three = joined s 16 16 8 (joined s 16 8 8 begin end) extension in
      joined s 0 16 24 (joined s 0 12 4 (joined s 0 8 4 four size) first) three

module _ (s : List ℕ) (b : AreBytes s) where
  -- The bytes from a place on are those of the object record there, and those after it.
  object_again : (at : ℕ) → at + 16 ≤ length s → object_form s at ≡ true
      → drop at s ≡ object_bytes (object_at s at) ++ drop (at + 16) s
  object_again at h e =
      let u = drop at s in
      let n : 16 ≤ length u = omega (arith, length-drop at s) in
      let w = object_first u (bytes_drop at s b) n (rw (object_form_from s at) at e) in
      rw (object_from s at, ← drop-drop 16 at s, w) (sym (take-append-drop 16 u))

  -- The same of object records, one after the other.
  objects_again : (n at : ℕ) → at + 16 * n ≤ length s → objects_form n s at ≡ true
      → drop at s ≡ objects_bytes (objects_at n s at) ++ drop (at + 16 * n) s
  objects_again zero at h e = rw add-zero
  objects_again (suc n) at h e =
      let p = both_true (object_form s at) (objects_form n s (at + 16)) e in
      let k : at + 16 * suc n ≡ at + 16 + 16 * n = omega arith in
      let o = object_again at (omega arith) p.0 in
      let os = objects_again n (at + 16) (omega arith) p.1 in
      rw k (o ∙ rw (os, append_assoc))

  -- The same of the 40 bytes of a component.
  fields_again : (at : ℕ) → at + 40 ≤ length s → component_marks s at ≡ true
      → drop at s ≡ field_bytes (component_at s at) ++ drop (at + 40) s
  fields_again at h e =
      let u = drop at s in
      let n : 40 ≤ length u = omega (arith, length-drop at s) in
      let w = fields_first u (bytes_drop at s b) n (rw (marks_from s at) at e) in
      rw (component_from s at, ← drop-drop 40 at s, w) (sym (take-append-drop 40 u))

-- There are as many object records as are asked for.
length_objects_at : (n : ℕ) (s : List ℕ) (at : ℕ) → length (objects_at n s at) ≡ n
length_objects_at zero s at = refl
length_objects_at (suc n) s at = ap suc (length_objects_at n s (at + 16))

-- A number that is below m in each object record of the bytes, and in a blank one, is below m in each of these.
each_below : (number : Object → ℕ) (m : ℕ) (s : List ℕ) → number no_object < m → ((at : ℕ) → number (object_at s at) < m)
    → (n at i : ℕ) → number (get_or (objects_at n s at) i no_object) < m
each_below number m s z h zero at i = z
each_below number m s z h (suc n) at zero = h at
each_below number m s z h (suc n) at (suc i) = each_below number m s z h n (at + 16) i

-- The component at a place, if it is to have at most 16 object records.
module _ (s : List ℕ) (at : ℕ) (few : record_count (component_at s at) ≤ 16) where
  few_at : records_at s at ≤ 16
  unfolding component_at records_at
  few_at = few

  kept_at : objects_at (min 16 (records_at s at)) s (at + 40) ≡ objects_at (records_at s at) s (at + 40)
  kept_at = rw (min-eq_right few_at)

  -- Its object records are those that are after it.
  pub read_records : records_of (component_at s at) ≡ objects_at (records_at s at) s (at + 40)
  unfolding component_at records_at
  read_records =
      let os = objects_at (records_at s at) s (at + 40) in
      let n : length os ≡ records_at s at = length_objects_at (records_at s at) s (at + 40) in
      ap (λ (l : List Object). take (records_at s at) (pack_objects l)) kept_at
      ∙ ap (λ (k : ℕ). take k (pack_objects os)) (sym n)
      ∙ records_pack os (omega (arith, few_at))

  -- It has as many as it is to have.
  pub read_whole : length (records_of (component_at s at)) ≡ records_at s at
  read_whole = rw read_records (length_objects_at (records_at s at) s (at + 40))

  -- It ends after the bytes that it takes.
  pub read_component_end : component_end s at ≡ at + size_of (component_at s at)
  read_component_end = omega (arith, read_whole)

  -- The unused places of its object array are blank.
  pub read_trimmed : trimmed (component_at s at) ≡ component_at s at
  unfolding component_at
  read_trimmed = rw (read_records, kept_at)

  module _ (b : AreBytes s) where
    -- It is written as the bytes that it is in.
    pub read_component : (limit : ℕ) → limit ≤ length s → component_form limit s at ≡ true
        → drop at s ≡ component_bytes (component_at s at) ++ drop (component_end s at) s
    unfolding component_form component_bytes
    read_component limit h e =
        let n = records_at s at in
        let p = both_true (leb (component_end s at) limit && component_marks s at) (objects_form n s (at + 40)) e in
        let q = both_true (leb (component_end s at) limit) (component_marks s at) p.0 in
        let k : component_end s at ≤ limit = leb-true (component_end s at) limit q.0 in
        let os = objects_again s b n (at + 40) (omega arith) p.1 in
        fields_again s b at (omega arith) q.1 ∙ rw (os, read_records, append_assoc)

    -- Its numbers fit their fields in a page.
    read_numbers : NumbersFit (component_at s at)
    unfolding component_at object_at records_at i32_of
    read_numbers =
        let n = records_at s at in
        record {
          id = u16_below s (at + 4) b;
          count = u16_below s (at + 6) b;
          size = u32_below s (at + 8) b;
          first = sfits_to_z {w = w32} (record { fits = u32_below s (at + 12) b });
          begin = u64_below s (at + 16) b;
          end = u64_below s (at + 24) b;
          extension = u64_below s (at + 32) b;
          targets = λ i h. rw read_records
              (each_below (λ (o : Object). o.target) (2 ^ 32) s (omega arith) (λ k. u32_below s (k + 4) b) n (at + 40) i);
          numbers = λ i h. rw read_records
              (each_below (λ (o : Object). o.number) (2 ^ 64) s (omega arith) (λ k. u64_below s (k + 8) b) n (at + 40) i);
        }

    pub read_fits : Fits (component_at s at)
    unfolding component_at records_at
    read_fits = record { fit = read_numbers; whole = read_whole; few = few }

-- The n components from a place on.
abbrev pub components_at : ℕ → List ℕ → ℕ → List Component
components_at n s at = map (component_at s) (places_from n s at)

-- Components one after the other, each of them to have at most 16 object records: they are written as the bytes that
-- they are in.
pub read_each : (n : ℕ) (s : List ℕ) (at : ℕ) → Few (components_at n s at) → AreBytes s → (limit : ℕ) → limit ≤ length s
    → components_form n limit s at ≡ true → drop at s ≡ components_bytes (components_at n s at) ++ drop (end_from n s at) s
read_each zero s at f b limit h e = refl
read_each (suc n) s at f b limit h e =
    let p = both_true (component_form limit s at) (components_form n limit s (component_end s at)) e in
    let r = read_each n s (component_end s at) f.1 b limit h p.1 in
    read_component s at f.0 b limit h p.0 ∙ rw (r, append_assoc)

-- They end after the bytes that they take.
pub read_ends : (n : ℕ) (s : List ℕ) (at : ℕ) → Few (components_at n s at)
    → end_from n s at ≡ at + total (components_at n s at)
read_ends zero s at f = omega arith
read_ends (suc n) s at f = omega (arith, read_ends n s (component_end s at) f.1, read_component_end s at f.0)

-- They fit.
pub read_all_fit : (n : ℕ) (s : List ℕ) (at : ℕ) → Few (components_at n s at) → AreBytes s → AllFit (components_at n s at)
read_all_fit zero s at f b = tt
read_all_fit (suc n) s at f b = (read_fits s at f.0 b, read_all_fit n s (component_end s at) f.1 b)

-- The unused places of their object arrays are blank.
pub read_all_trimmed : (n : ℕ) (s : List ℕ) (at : ℕ) → Few (components_at n s at)
    → map trimmed (components_at n s at) ≡ components_at n s at
read_all_trimmed zero s at f = refl
read_all_trimmed (suc n) s at f = rw (read_trimmed s at f.0, read_all_trimmed n s (component_end s at) f.1)

-- The tests that make the form of a head.
head_tests : (s : List ℕ) → head_form s ≡ true → (i : ℕ)
    → get_or (eqb (u16_at s 0) 0x4850 ∷ only_first 1 (u16_at s 2) ∷ leb 1 (counted s) ∷ eqb (u32_at s 12) 0 ∷ []) i true
    ≡ true
unfolding head_form
head_tests s e =
    conjunction_at (eqb (u16_at s 0) 0x4850) (only_first 1 (u16_at s 2) ∷ leb 1 (counted s) ∷ eqb (u32_at s 12) 0 ∷ []) e

-- The head at the beginning of the bytes.
head_first : (s : List ℕ) → AreBytes s → 16 ≤ length s → head_form s ≡ true → head_bytes (head_of s) ≡ take 16 s
unfolding head_bytes words head_of
head_first s b h e =
    let p = head_tests s e in
    let mark : u16_bytes 0x4850 ≡ take 2 s =
    ap u16_bytes (sym (eqb-true (u16_at s 0) 0x4850 (p 0))) ∙ u16_again s 0 b (omega arith) in
    let flags : u16_bytes (flag_word (is_set 0 (u16_at s 2)) false) ≡ take 2 (drop 2 s) =
    ap u16_bytes (words_one (u16_at s 2) (p 1)) ∙ u16_again s 2 b (omega arith) in
    let number = u16_again s 4 b (omega arith) in
    let count = u16_again s 6 b (omega arith) in
    let generation = u32_again s 8 b (omega arith) in
    let zeros : u32_bytes 0 ≡ take 4 (drop 12 s) =
    ap u32_bytes (sym (eqb-true (u32_at s 12) 0 (p 3))) ∙ u32_again s 12 b (omega arith) in
    let four = joined s 0 6 2 (joined s 0 4 2 (joined s 0 2 2 mark flags) number) count in
    joined s 0 12 4 (joined s 0 8 4 four generation) zeros

-- The page at the beginning of the bytes, whatever is after it.
module _ (s : List ℕ) (few : Few (components_of s)) where
  few_from : Few (components_at (counted s) s 16)
  unfolding components_of
  few_from = few

  -- It ends after the bytes that it takes.
  pub read_end : page_end s ≡ 16 + total (components_of s)
  unfolding components_of
  read_end = read_ends (counted s) s 16 few_from

  -- What is read has blank unused places.
  pub trimmed_read : map trimmed (components_of s) ≡ components_of s
  unfolding components_of
  trimmed_read = read_all_trimmed (counted s) s 16 few_from

  -- It is written as the bytes that it is in.
  pub read_page : AreBytes s → (limit : ℕ) → limit ≤ length s → form_by limit s ≡ true
      → s ≡ page_bytes (head_of s) (components_of s) ++ drop (page_end s) s
  unfolding page_bytes components_of
  read_page b limit h e =
      let k = form_room limit s e in
      let w = head_first s b (omega arith) (form_head limit s e) in
      let r = read_each (counted s) s 16 few_from b limit h (form_components limit s e) in
      sym (take-append-drop 16 s) ∙ rw (r, w, append_assoc)

-- What is read fits: the components,
pub fits_read : (s : List ℕ) → AreBytes s → Few (components_of s) → AllFit (components_of s)
unfolding components_of
fits_read s b few = read_all_fit (counted s) s 16 few b

-- and the head, which counts them.
pub fits_head_read : (s : List ℕ) → AreBytes s → page_form s ≡ true → FitsHead (head_of s) (length (components_of s))
unfolding head_of
fits_head_read s b e =
    let c = length_components s in
    let k = some_components (length s) s (page_by s e) in
    record {
      number = u16_below s 4 b;
      generation = u32_below s 8 b;
      counts = sym c;
      some = omega arith;
      few = omega (arith, u16_below s 6 b);
    }

-- A page whose components are each to have at most 16 object records is written again, byte for byte, from what is read
-- of it.
pub read_written : (s : List ℕ) → AreBytes s → page_form s ≡ true → Few (components_of s)
    → page_bytes (head_of s) (components_of s) ≡ s
read_written s b e f =
    let r : drop (page_end s) s ≡ [] = rw (page_ends s e) (drop-length s) in
    sym (read_page s f b (length s) (omega arith) (page_by s e) ∙ rw (r, append-nil))
