-- What is written is read: "What the writer writes reads back to the same layout". If the bytes from a place on
-- begin with those of a component, that component is read at the place, the unused places of its object array blank.
use Rattle.std.specs.Prelude.{ℕ, suc, ◌+◌, ◌^◌, ◌≤◌, ◌<◌, min, ◌≡◌, true, false, length, get_or, drop}
use Rattle.std.proofs.Math.Path.{refl, ap}
use Rattle.std.proofs.Common.{sym, ◌∙◌, arith, le-leb, eq-eqb}
use mathlib.Core.List.{List, [], ◌∷◌, ◌++◌, map, append_assoc, append-nil}
use Rattle.std.proofs.Math.Nat.{min-eq_right}
use lib.Seq.{drop_at, drop-drop}
use Rattle.lists.specs.Bools.{true_both}
use Rattle.bytes_le.specs.Numbers.{u16_at, u32_at, u64_at, i32_at, i32_of, bits_of, u16_bytes, u32_bytes, u64_bytes}
use Rattle.bytes_le.specs.NumberLaws.{le_enc, bits_signed, bits_below}
use Rattle.bytes_le.specs.Flags.{is_set, flag_word}
use Rattle.bytes_le.specs.FlagLaws.{first_word, second_word, word_only, word_first, word_below}
use Rattle.layout.specs.declared.Object.{Object}
use Rattle.layout.specs.declared.Component.{Component}
use Rattle.layout.specs.Records.{no_object, record_count, records_of, pack_objects}
use Rattle.page.specs.declared.Head.{Head}
use Rattle.page.specs.Form.{object_form, objects_form, component_marks, records_at, component_end, component_form}
use Rattle.page.specs.Form.{components_form, places_from, end_from, head_form, counted, page_end, form_by, page_form}
use Rattle.page.specs.Content.{object_at, objects_at, component_at, head_of, components_of}
use Rattle.page.specs.Bytes.{object_bytes, objects_bytes, words, longs, field_bytes, component_bytes, size_of}
use Rattle.page.specs.Bytes.{components_bytes, head_bytes, page_bytes}
use Rattle.page.specs.Same.{trimmed, NumbersFit, Fits, AllFit, FitsHead}
use Rattle.page.specs.BytesLaws.{length_object, length_fields, length_component, length_head, length_page, total}
use Rattle.page.specs.PlaceLaws.{objects_from, objects_form_from, records_from, marks_from, after_form_from}
use Rattle.page.specs.PlaceLaws.{component_from}

-- An object record at the beginning of the bytes.
object_read : (o : Object) (t : List ℕ) → o.target < 2 ^ 32 → o.number < 2 ^ 64 → object_at (object_bytes o ++ t) 0 ≡ o
unfolding object_at object_bytes u32_at u64_at u16_bytes u32_bytes u64_bytes
object_read o t h k = λ i. record { target = le_enc 2 o.target [] h i; number = le_enc 3 o.number [] k i }

object_formed : (o : Object) (t : List ℕ) → object_form (object_bytes o ++ t) 0 ≡ true
unfolding object_form object_bytes u16_at u16_bytes u32_bytes u64_bytes
object_formed o t = refl

-- Object records at the beginning of the bytes.
objects_read : (os : List Object) (t : List ℕ)
    → ((i : ℕ) → i < length os → (get_or os i no_object).target < 2 ^ 32)
    → ((i : ℕ) → i < length os → (get_or os i no_object).number < 2 ^ 64)
    → objects_at (length os) (objects_bytes os ++ t) 0 ≡ os
objects_read [] t h k = refl
objects_read (o ∷ os) t h k =
    let r = objects_bytes os ++ t in
    rw (
      append_assoc (object_bytes o) (objects_bytes os) t,
      objects_from (length os) (object_bytes o ++ r) 16,
      drop_at (object_bytes o) r 16 (length_object o),
      object_read o r (h 0 (omega arith)) (k 0 (omega arith)),
      objects_read os t (λ i b. h (suc i) (omega arith)) (λ i b. k (suc i) (omega arith)),
    )

objects_formed : (os : List Object) (t : List ℕ) → objects_form (length os) (objects_bytes os ++ t) 0 ≡ true
objects_formed [] t = refl
objects_formed (o ∷ os) t =
    let r = objects_bytes os ++ t in
    rw (
      append_assoc (object_bytes o) (objects_bytes os) t,
      objects_form_from (length os) (object_bytes o ++ r) 16,
      drop_at (object_bytes o) r 16 (length_object o),
      object_formed o r,
      objects_formed os t,
    )

-- The numbers of a component at the beginning of the bytes.
module _ (c : Component) (t : List ℕ) where
  mark_read : u16_at (field_bytes c ++ t) 0 ≡ 0x5043
  unfolding u16_at field_bytes words longs u16_bytes u32_bytes u64_bytes
  mark_read = refl

  flags_read : u16_at (field_bytes c ++ t) 2 ≡ flag_word c.init c.extension
  unfolding u16_at field_bytes words longs u16_bytes u32_bytes u64_bytes
  flags_read = le_enc 1 (flag_word c.init c.extension) [] (word_below c.init c.extension)

  module _ (f : NumbersFit c) where
    count_read : u16_at (field_bytes c ++ t) 6 ≡ c.stripe_count
    unfolding u16_at field_bytes words longs u16_bytes u32_bytes u64_bytes
    count_read = le_enc 1 c.stripe_count [] f.count

    first_read : i32_at (field_bytes c ++ t) 12 ≡ c.first_target
    unfolding u32_at field_bytes words longs u16_bytes u32_bytes u64_bytes
    first_read =
        ap i32_of (le_enc 2 (bits_of c.first_target) [] (bits_below c.first_target f.first))
        ∙ bits_signed c.first_target f.first

    records_read : records_at (field_bytes c ++ t) 0 ≡ record_count c
    unfolding records_at
    records_read = rw (flags_read, first_word c.init c.extension, count_read)

  marks_read : component_marks (field_bytes c ++ t) 0 ≡ true
  unfolding component_marks
  marks_read = rw (mark_read, flags_read, word_only c.init c.extension)

-- A component at the beginning of the bytes, its object records after it.
module _ (c : Component) (t : List ℕ) (f : Fits c) where
  abbrev written : List ℕ
  written = field_bytes c ++ (objects_bytes (records_of c) ++ t)

  records_first : records_at written 0 ≡ length (records_of c)
  records_first = records_read c (objects_bytes (records_of c) ++ t) f.fit ∙ sym f.whole

  after_rest : drop 40 written ≡ objects_bytes (records_of c) ++ t
  after_rest = drop_at (field_bytes c) (objects_bytes (records_of c) ++ t) 40 (length_fields c)

  after_read : objects_at (min 16 (records_at written 0)) written 40 ≡ records_of c
  after_read =
      let n = length (records_of c) in
      let h : n ≤ 16 = omega (arith, f.whole, f.few) in
      rw (records_first, min-eq_right h, objects_from n written 40, after_rest)
      (objects_read (records_of c) t f.fit.targets f.fit.numbers)

  after_formed : objects_form (records_at written 0) written 40 ≡ true
  after_formed =
      rw (records_first, objects_form_from (length (records_of c)) written 40, after_rest)
      (objects_formed (records_of c) t)

  component_first : component_at written 0 ≡ trimmed c
  unfolding component_at u16_at u32_at u64_at field_bytes words longs u16_bytes u32_bytes u64_bytes
  component_first =
      let q = objects_bytes (records_of c) ++ t in
      λ i. record {
        init = (ap (is_set 0) (flags_read c q) ∙ first_word c.init c.extension) i;
        extension = (ap (is_set 1) (flags_read c q) ∙ second_word c.init c.extension) i;
        id = le_enc 1 c.id [] f.fit.id i;
        stripe_count = count_read c q f.fit i;
        stripe_size = le_enc 2 c.stripe_size [] f.fit.size i;
        first_target = first_read c q f.fit i;
        begin = le_enc 3 c.begin [] f.fit.begin i;
        end = le_enc 3 c.end [] f.fit.end i;
        extension_size = le_enc 3 c.extension_size [] f.fit.extension i;
        objects = pack_objects (after_read i);
      }

-- A component at a place, if the bytes from the place on begin with its bytes. (After bytes p the place is length
-- p, and the hypothesis is `drop-append_seam p (component_bytes c ++ t)` of lib.Seq.)
module _ (s : List ℕ) (at : ℕ) (c : Component) (t : List ℕ) (e : drop at s ≡ component_bytes c ++ t) (f : Fits c) where
  begins : drop at s ≡ field_bytes c ++ (objects_bytes (records_of c) ++ t)
  unfolding component_bytes
  begins = e ∙ append_assoc (field_bytes c) (objects_bytes (records_of c)) t

  -- It has as many object records there as it is to have.
  pub written_records : records_at s at ≡ record_count c
  written_records = rw (records_from s at, begins) (records_read c (objects_bytes (records_of c) ++ t) f.fit)

  -- It has its mark there, and no flags that may not be set.
  pub written_marks : component_marks s at ≡ true
  written_marks = rw (marks_from s at, begins) (marks_read c (objects_bytes (records_of c) ++ t))

  -- Its object records have their form there.
  pub written_objects : objects_form (records_at s at) s (at + 40) ≡ true
  written_objects = rw (after_form_from (records_at s at) s at, records_from s at, begins) (after_formed c t f)

  -- It is read there, the unused places of its object array blank.
  pub written_component : component_at s at ≡ trimmed c
  written_component = rw (component_from s at, begins) (component_first c t f)

  -- It ends after its bytes.
  pub written_component_end : component_end s at ≡ at + size_of c
  written_component_end = rw written_records (omega (arith, f.whole))

  -- It has its form there, where it ends by the limit.
  pub written_form : (limit : ℕ) → at + size_of c ≤ limit → component_form limit s at ≡ true
  unfolding component_form
  written_form limit h =
      true_both (true_both (le-leb (component_end s at) limit (rw written_component_end h)) written_marks) written_objects

  -- After it is what was after its bytes.
  pub written_rest : drop (component_end s at) s ≡ t
  written_rest =
      rw (written_component_end, ← drop-drop (size_of c) at s, e) (drop_at (component_bytes c) t (size_of c) (length_component c))

-- Components one after the other, if the bytes from a place on begin with their bytes: they have their form, if
-- they end by the limit.
pub written_forms : (cs : List Component) (s : List ℕ) (at : ℕ) (t : List ℕ) → drop at s ≡ components_bytes cs ++ t
    → AllFit cs → (limit : ℕ) → at + total cs ≤ limit → components_form (length cs) limit s at ≡ true
written_forms [] s at t e f limit h = refl
written_forms (c ∷ cs) s at t e f limit h =
    let r = components_bytes cs ++ t in
    let b : drop at s ≡ component_bytes c ++ r = e ∙ append_assoc (component_bytes c) (components_bytes cs) t in
    let w = written_component_end s at c r b f.0 in
    true_both (written_form s at c r b f.0 limit (omega arith))
    (written_forms cs s (component_end s at) t (written_rest s at c r b f.0) f.1 limit (omega arith))

-- They are read there, the unused places of their object arrays blank.
pub written_each : (cs : List Component) (s : List ℕ) (at : ℕ) (t : List ℕ) → drop at s ≡ components_bytes cs ++ t
    → AllFit cs → map (component_at s) (places_from (length cs) s at) ≡ map trimmed cs
written_each [] s at t e f = refl
written_each (c ∷ cs) s at t e f =
    let r = components_bytes cs ++ t in
    let b : drop at s ≡ component_bytes c ++ r = e ∙ append_assoc (component_bytes c) (components_bytes cs) t in
    rw (written_component s at c r b f.0, written_each cs s (component_end s at) t (written_rest s at c r b f.0) f.1)

-- They end after their bytes.
pub written_ends : (cs : List Component) (s : List ℕ) (at : ℕ) (t : List ℕ) → drop at s ≡ components_bytes cs ++ t
    → AllFit cs → end_from (length cs) s at ≡ at + total cs
written_ends [] s at t e f = omega arith
written_ends (c ∷ cs) s at t e f =
    let r = components_bytes cs ++ t in
    let b : drop at s ≡ component_bytes c ++ r = e ∙ append_assoc (component_bytes c) (components_bytes cs) t in
    let w = written_component_end s at c r b f.0 in
    omega (arith, written_ends cs s (component_end s at) t (written_rest s at c r b f.0) f.1)

-- The numbers of a head at the beginning of the bytes.
module _ (h : Head) (t : List ℕ) where
  head_mark : u16_at (head_bytes h ++ t) 0 ≡ 0x4850
  unfolding u16_at head_bytes words u16_bytes u32_bytes
  head_mark = refl

  head_flags : u16_at (head_bytes h ++ t) 2 ≡ flag_word h.more false
  unfolding u16_at head_bytes words u16_bytes u32_bytes
  head_flags = le_enc 1 (flag_word h.more false) [] (word_below h.more false)

  head_zeros : u32_at (head_bytes h ++ t) 12 ≡ 0
  unfolding u32_at head_bytes words u16_bytes u32_bytes
  head_zeros = refl

  head_number : h.number < 2 ^ 16 → u16_at (head_bytes h ++ t) 4 ≡ h.number
  unfolding u16_at head_bytes words u16_bytes u32_bytes
  head_number b = le_enc 1 h.number [] b

  head_count : h.count < 2 ^ 16 → u16_at (head_bytes h ++ t) 6 ≡ h.count
  unfolding u16_at head_bytes words u16_bytes u32_bytes
  head_count b = le_enc 1 h.count [] b

  head_generation : h.generation < 2 ^ 32 → u32_at (head_bytes h ++ t) 8 ≡ h.generation
  unfolding u32_at head_bytes words u16_bytes u32_bytes
  head_generation b = le_enc 2 h.generation [] b

-- A page at the beginning of the bytes, whatever is after it.
module _ (h : Head) (cs : List Component) (t : List ℕ) (f : FitsHead h (length cs)) where
  page_begins : page_bytes h cs ++ t ≡ head_bytes h ++ (components_bytes cs ++ t)
  unfolding page_bytes
  page_begins = append_assoc (head_bytes h) (components_bytes cs) t

  page_rest : drop 16 (page_bytes h cs ++ t) ≡ components_bytes cs ++ t
  page_rest = rw page_begins (drop_at (head_bytes h) (components_bytes cs ++ t) 16 (length_head h))

  page_count : u16_at (head_bytes h ++ (components_bytes cs ++ t)) 6 ≡ h.count
  page_count = head_count h (components_bytes cs ++ t) (omega (arith, f.counts, f.few))

  -- It counts its components.
  pub written_count : counted (page_bytes h cs ++ t) ≡ length cs
  written_count = rw (page_begins, page_count) f.counts

  -- Its head is read.
  pub written_head : head_of (page_bytes h cs ++ t) ≡ h
  unfolding head_of
  written_head =
      let q = components_bytes cs ++ t in
      rw page_begins
      (λ i. record {
        more = (ap (is_set 0) (head_flags h q) ∙ first_word h.more false) i;
        number = head_number h q f.number i;
        count = page_count i;
        generation = head_generation h q f.generation i;
      })

  -- Its head has its form.
  pub written_head_form : head_form (page_bytes h cs ++ t) ≡ true
  unfolding head_form
  written_head_form =
      let q = components_bytes cs ++ t in
      let b : 1 ≤ h.count = omega (arith, f.counts, f.some) in
      rw (page_begins, head_mark h q, head_flags h q, word_first h.more, page_count, head_zeros h q)
      (rw (le-leb 1 h.count b))

  module _ (a : AllFit cs) where
    -- Its components are read, the unused places of their object arrays blank.
    pub written_components : components_of (page_bytes h cs ++ t) ≡ map trimmed cs
    unfolding components_of
    written_components = rw written_count (written_each cs (page_bytes h cs ++ t) 16 t page_rest a)

    -- It ends after its bytes.
    pub written_end : page_end (page_bytes h cs ++ t) ≡ 16 + total cs
    written_end = rw written_count (written_ends cs (page_bytes h cs ++ t) 16 t page_rest a)

    -- It has its form, where it ends by the limit.
    pub written_by : (limit : ℕ) → 16 + total cs ≤ limit → form_by limit (page_bytes h cs ++ t) ≡ true
    unfolding form_by
    written_by limit b =
        rw (le-leb 16 limit (omega arith), written_head_form, written_count)
        (written_forms cs (page_bytes h cs ++ t) 16 t page_rest a limit b)

-- A page that is written into at most 512 bytes has the form of a page, and its head and its components are read, the
-- unused places of their object arrays blank.
pub written_read : (h : Head) (cs : List Component) → FitsHead h (length cs) → AllFit cs → 16 + total cs ≤ 512
    → (page_form (page_bytes h cs) ≡ true) × (head_of (page_bytes h cs) ≡ h)
    × (components_of (page_bytes h cs) ≡ map trimmed cs)
unfolding page_form
written_read h cs f a b =
    let s = page_bytes h cs in
    let n = length_page h cs in
    let e = append-nil s in
    let form = rw e at (written_by h cs [] f a (length s) (omega arith)) in
    let end : page_end s ≡ length s = (rw e at (written_end h cs [] f a)) ∙ sym n in (
      true_both (true_both (le-leb (length s) 512 (omega arith)) form) (eq-eqb (page_end s) (length s) end),
      rw e at (written_head h cs [] f),
      rw e at (written_components h cs [] f a),
    )
