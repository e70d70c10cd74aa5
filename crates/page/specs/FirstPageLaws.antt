-- The page that longer bytes begin with, and that page cut off: what is read of one is read of the other.
use Rattle.std.specs.Prelude.{ℕ, zero, suc, ◌+◌, ◌*◌, ◌≤◌, ◌<◌, min, ◌≡◌, refl, List, ◌++◌, map, true, ◌&&◌, leb, length, take, drop}
use Rattle.std.proofs.Common.{sym, ◌∙◌, arith, length-append, length-take-le}
use Rattle.std.proofs.Math.Nat.{min-le_left, min-le_right, le-min}
use Rattle.std.proofs.Math.Seq.{take-append_seam, drop-append_seam}
use borrow.Author.Tests.{leb-true, leb-false, le-leb, lt-leb}
use Rattle.bytes_le.specs.NumberLaws.{u16_take, u32_take, u64_take}
use Rattle.lists.specs.Bools.{bool_cases, both_true, true_both, same_test}
use Rattle.page.specs.Form.{object_form, objects_form, component_marks, records_at, component_end, component_form}
use Rattle.page.specs.Form.{components_form, places_from, end_from, head_form, counted, page_end, form_by, page_form}
use Rattle.page.specs.FormLaws.{component_within, components_parts, form_room, form_components, page_within}
use Rattle.page.specs.FormLaws.{form_grows, form_shrinks, page_short, page_by, page_ends, page_of}
use Rattle.page.specs.Content.{object_at, objects_at, component_at, head_of, components_of}

-- What is read of a record that lies in the first n bytes is read of these n bytes.
module _ (n : ℕ) (s : List ℕ) where
  -- The number of object records of a component.
  pub records_take : (at : ℕ) → at + 8 ≤ n → records_at (take n s) at ≡ records_at s at
  unfolding records_at
  records_take at h = rw (u16_take n s (at + 2) (omega arith), u16_take n s (at + 6) (omega arith))

  -- Where a component ends.
  pub after_take : (at : ℕ) → at + 8 ≤ n → component_end (take n s) at ≡ component_end s at
  after_take at h = rw (records_take at h)

  -- The marks of a component.
  pub marks_take : (at : ℕ) → at + 4 ≤ n → component_marks (take n s) at ≡ component_marks s at
  unfolding component_marks
  marks_take at h = rw (u16_take n s at (omega arith), u16_take n s (at + 2) (omega arith))

  -- The form of an object record.
  pub object_form_take : (at : ℕ) → at + 4 ≤ n → object_form (take n s) at ≡ object_form s at
  unfolding object_form
  object_form_take at h = rw (u16_take n s at (omega arith), u16_take n s (at + 2) (omega arith))

  -- The form of k object records.
  pub objects_form_take : (k at : ℕ) → at + 16 * k ≤ n → objects_form k (take n s) at ≡ objects_form k s at
  objects_form_take zero at h = refl
  objects_form_take (suc k) at h =
      rw (object_form_take at (omega arith), objects_form_take k (at + 16) (omega arith))

  -- The form of a component by a limit within the n bytes. A component that reaches past the limit has its form in
  -- neither, whatever is read there.
  pub component_form_take : (limit at : ℕ) → limit ≤ n → component_form limit (take n s) at ≡ component_form limit s at
  unfolding component_form
  component_form_take limit at h = bool_cases (leb (at + 40) limit)
      (λ e. let w : at + 40 ≤ limit = leb-true (at + 40) limit e in
      rw (records_take at (omega arith))
      (bool_cases (leb (component_end s at) limit)
      (λ f. let v : component_end s at ≤ limit = leb-true (component_end s at) limit f in
      rw (marks_take at (omega arith), objects_form_take (records_at s at) (at + 40) (omega arith)))
      (λ f. rw f)))
      (λ e. let w : limit < at + 40 = leb-false (at + 40) limit e in
      rw (lt-leb (component_end (take n s) at) limit (omega arith), lt-leb (component_end s at) limit (omega arith)))

  -- The form of k components by a limit within the n bytes.
  pub components_form_take : (k limit at : ℕ) → limit ≤ n
      → components_form k limit (take n s) at ≡ components_form k limit s at
  components_form_take zero limit at h = refl
  components_form_take (suc k) limit at h =
      rw (component_form_take limit at h)
      (bool_cases (component_form limit s at)
      (λ e. let w = component_within limit s at e in
      rw (after_take at (omega arith), components_form_take k limit (component_end s at) h))
      (λ e. rw e))

  -- The form of a head.
  pub head_form_take : 16 ≤ n → head_form (take n s) ≡ head_form s
  unfolding head_form
  head_form_take h =
      rw (u16_take n s 0 (omega arith), u16_take n s 2 (omega arith))
      (rw (u16_take n s 6 (omega arith), u32_take n s 12 (omega arith)))

  -- The number of components that the head counts.
  pub counted_take : 16 ≤ n → counted (take n s) ≡ counted s
  counted_take h = u16_take n s 6 (omega arith)

  -- The form of the page that the bytes begin with, by a limit within the n bytes.
  pub form_take : (limit : ℕ) → limit ≤ n → form_by limit (take n s) ≡ form_by limit s
  unfolding form_by
  form_take limit h = bool_cases (leb 16 limit)
      (λ e. let w : 16 ≤ limit = leb-true 16 limit e in
      rw (head_form_take (omega arith), counted_take (omega arith), components_form_take (counted s) limit 16 h))
      (λ e. rw e)

  -- The places of k components that end by the n bytes, and where they end.
  walk_take : (k at : ℕ) → components_form k n s at ≡ true
      → (places_from k (take n s) at ≡ places_from k s at) × (end_from k (take n s) at ≡ end_from k s at)
  walk_take zero at e = (refl, refl)
  walk_take (suc k) at e =
      let p = components_parts k n s at e in
      let w = component_within n s at p.0 in
      let rest = walk_take k (component_end s at) p.1 in
      rw (after_take at (omega arith)) (rw rest.0, rest.1)

  pub places_take : (k at : ℕ) → components_form k n s at ≡ true → places_from k (take n s) at ≡ places_from k s at
  places_take k at e = (walk_take k at e).0

  pub end_take : (k at : ℕ) → components_form k n s at ≡ true → end_from k (take n s) at ≡ end_from k s at
  end_take k at e = (walk_take k at e).1

  -- An object record.
  pub object_take : (at : ℕ) → at + 16 ≤ n → object_at (take n s) at ≡ object_at s at
  unfolding object_at
  object_take at h = rw (u32_take n s (at + 4) (omega arith), u64_take n s (at + 8) (omega arith))

  -- k object records.
  pub objects_take : (k at : ℕ) → at + 16 * k ≤ n → objects_at k (take n s) at ≡ objects_at k s at
  objects_take zero at h = refl
  objects_take (suc k) at h = rw (object_take at (omega arith), objects_take k (at + 16) (omega arith))

  -- A component with its object records.
  pub component_take : (at : ℕ) → component_end s at ≤ n → component_at (take n s) at ≡ component_at s at
  unfolding component_at
  component_take at h =
      let m = min-le_right 16 (records_at s at) in
      rw (records_take at (omega arith), objects_take (min 16 (records_at s at)) (at + 40) (omega arith))
      (rw (u16_take n s (at + 2) (omega arith), u16_take n s (at + 4) (omega arith))
      (rw (u16_take n s (at + 6) (omega arith), u32_take n s (at + 8) (omega arith))
      (rw (u32_take n s (at + 12) (omega arith), u64_take n s (at + 16) (omega arith))
      (rw (u64_take n s (at + 24) (omega arith), u64_take n s (at + 32) (omega arith))))))

  -- The components at the places of k components that end by the n bytes.
  components_at_take : (k at : ℕ) → components_form k n s at ≡ true
      → map (component_at (take n s)) (places_from k s at) ≡ map (component_at s) (places_from k s at)
  components_at_take zero at e = refl
  components_at_take (suc k) at e =
      let p = components_parts k n s at e in
      rw (component_take at (component_within n s at p.0), components_at_take k (component_end s at) p.1)

  -- What the head says.
  pub head_take : 16 ≤ n → head_of (take n s) ≡ head_of s
  unfolding head_of
  head_take h =
      rw (u16_take n s 2 (omega arith), u16_take n s 4 (omega arith))
      (rw (u16_take n s 6 (omega arith), u32_take n s 8 (omega arith)))

  -- If the bytes begin with a page that ends by the n bytes, it ends there too, and has the same components.
  pub page_end_take : form_by n s ≡ true → page_end (take n s) ≡ page_end s
  page_end_take e = rw (counted_take (form_room n s e)) (end_take (counted s) 16 (form_components n s e))

  pub components_take : form_by n s ≡ true → components_of (take n s) ≡ components_of s
  unfolding components_of
  components_take e =
      rw (counted_take (form_room n s e), places_take (counted s) 16 (form_components n s e))
      (components_at_take (counted s) 16 (form_components n s e))

-- If the bytes begin with a page that ends by 512 and by the end of the bytes, it is a page when cut off at its end.
pub first_cut : (s : List ℕ) → form_by (min 512 (length s)) s ≡ true
    → (page_end s ≤ length s) × (page_form (take (page_end s) s) ≡ true)
first_cut s e =
    let m = min 512 (length s) in
    let n = page_end s in
    let w = page_within m s e in
    let short = min-le_left 512 (length s) in
    let fits = min-le_right 512 (length s) in
    let by : form_by n s ≡ true = form_shrinks m n s e (omega arith) in
    let l : length (take n s) ≡ n = length-take-le n s (omega arith) in
    let f : form_by (length (take n s)) (take n s) ≡ true = rw (l, form_take n s n (omega arith)) by in
    (omega arith, page_of (take n s) (omega arith) f (page_end_take n s by ∙ sym l))

-- And if the bytes up to that end are there and are a page, the bytes begin with a page that ends so.
pub cut_first : (s : List ℕ) → page_end s ≤ length s → page_form (take (page_end s) s) ≡ true
    → form_by (min 512 (length s)) s ≡ true
cut_first s h e =
    let n = page_end s in
    let l : length (take n s) ≡ n = length-take-le n s h in
    let short = page_short (take n s) e in
    let by : form_by n (take n s) ≡ true = rw l at (page_by (take n s) e) in
    form_grows n (min 512 (length s)) s (le-min (omega arith) h) (rw (form_take n s n (omega arith)) at by)

-- The bytes begin with a page of good form that ends by 512 and by the end of the bytes exactly if the page that its
-- head counts is whole and, cut off there, a page.
pub first_page_lem : (s : List ℕ)
    → form_by (min 512 (length s)) s ≡ (leb (page_end s) (length s) && page_form (take (page_end s) s))
first_page_lem s =
    let t = leb (page_end s) (length s) in
    let u = page_form (take (page_end s) s) in
    same_test (form_by (min 512 (length s)) s) (t && u)
    (λ e. let p = first_cut s e in true_both (le-leb (page_end s) (length s) p.0) p.1)
    (λ e. let p = both_true t u e in cut_first s (leb-true (page_end s) (length s) p.0) p.1)

-- That page says, cut off, what the bytes say.
pub first_content : (s : List ℕ) → form_by (min 512 (length s)) s ≡ true
    → (head_of (take (page_end s) s) ≡ head_of s) × (components_of (take (page_end s) s) ≡ components_of s)
first_content s e =
    let n = page_end s in
    let by : form_by n s ≡ true = form_shrinks (min 512 (length s)) n s e (omega arith) in
    (head_take n s (form_room n s by), components_take n s by)

-- A page with any bytes after it.
module _ (p t : List ℕ) (e : page_form p ≡ true) where
  -- The bytes begin with a page that ends by the end of p.
  pub whole_by : form_by (length p) (p ++ t) ≡ true
  whole_by =
      rw (← form_take (length p) (p ++ t) (length p) (omega arith), take-append_seam p t) (page_by p e)

  -- It is cut off at the end of p, whatever is after it.
  pub whole_page : page_end (p ++ t) ≡ length p
  whole_page = sym (page_end_take (length p) (p ++ t) whole_by) ∙ rw (take-append_seam p t) (page_ends p e)

  -- The page cut off is p, and what is left are the bytes after it.
  pub whole_cut : take (page_end (p ++ t)) (p ++ t) ≡ p
  whole_cut = rw whole_page (take-append_seam p t)

  pub whole_rest : drop (page_end (p ++ t)) (p ++ t) ≡ t
  whole_rest = rw whole_page (drop-append_seam p t)

  -- The bytes begin with a page of good form that ends by 512 and by their end.
  pub whole_form : form_by (min 512 (length (p ++ t))) (p ++ t) ≡ true
  whole_form =
      let l = length-append p t in
      form_grows (length p) (min 512 (length (p ++ t))) (p ++ t) (le-min (page_short p e) (omega arith)) whole_by

  -- They say what p says.
  pub whole_head : head_of (p ++ t) ≡ head_of p
  whole_head = sym (first_content (p ++ t) whole_form).0 ∙ rw whole_cut

  pub whole_components : components_of (p ++ t) ≡ components_of p
  whole_components = sym (first_content (p ++ t) whole_form).1 ∙ rw whole_cut
