-- The laws of a page's form: how many components it has, where they lie, and how the form goes with the limit.
use Rattle.std.specs.Prelude.{ℕ, zero, suc, ◌+◌, ◌*◌, ◌≤◌, ◌<◌, ◌≡◌, refl, List, true, ◌&&◌, eqb, leb, length, get_or}
use Rattle.std.proofs.Common.{ap, ◌∙◌, arith, leb-true, eqb-true, le-leb, eq-eqb}
use Rattle.std.proofs.lemmas.List.{length-map}
use Rattle.bytes_le.specs.Numbers.{u16_at, u32_at}
use Rattle.bytes_le.specs.Flags.{only_first}
use Rattle.lists.specs.Bools.{both_true, true_both}
use Rattle.page.specs.Form.{objects_form, component_marks, records_at, component_end, component_form, components_form}
use Rattle.page.specs.Form.{places_from, end_from, head_form, counted, page_end, form_by, page_form}
use Rattle.page.specs.Content.{component_at, components_of}

-- There are as many places as components.
pub length_places : (n : ℕ) (s : List ℕ) (at : ℕ) → length (places_from n s at) ≡ n
length_places zero s at = refl
length_places (suc n) s at = ap suc (length_places n s (component_end s at))

-- A page has as many components as its head counts.
pub length_components : (s : List ℕ) → length (components_of s) ≡ counted s
unfolding components_of
length_components s = length-map (places_from (counted s) s 16) (component_at s) ∙ length_places (counted s) s 16

-- What the form of a component says: it ends by the limit, it has its mark and flags, and its object records have
-- their form. And these three make the form.
pub component_within : (limit : ℕ) (s : List ℕ) (at : ℕ) → component_form limit s at ≡ true → component_end s at ≤ limit
unfolding component_form
component_within limit s at e =
    let p = both_true (leb (component_end s at) limit && component_marks s at) (objects_form (records_at s at) s (at + 40)) e in
    leb-true (component_end s at) limit (both_true (leb (component_end s at) limit) (component_marks s at) p.0).0

pub component_marked : (limit : ℕ) (s : List ℕ) (at : ℕ) → component_form limit s at ≡ true → component_marks s at ≡ true
unfolding component_form
component_marked limit s at e =
    let p = both_true (leb (component_end s at) limit && component_marks s at) (objects_form (records_at s at) s (at + 40)) e in
    (both_true (leb (component_end s at) limit) (component_marks s at) p.0).1

pub component_objects : (limit : ℕ) (s : List ℕ) (at : ℕ) → component_form limit s at ≡ true
    → objects_form (records_at s at) s (at + 40) ≡ true
unfolding component_form
component_objects limit s at e =
    (both_true (leb (component_end s at) limit && component_marks s at) (objects_form (records_at s at) s (at + 40)) e).1

pub component_of : (limit : ℕ) (s : List ℕ) (at : ℕ) → component_end s at ≤ limit → component_marks s at ≡ true
    → objects_form (records_at s at) s (at + 40) ≡ true → component_form limit s at ≡ true
unfolding component_form
component_of limit s at h e f = true_both (true_both (le-leb (component_end s at) limit h) e) f

-- A component that has its form by one limit has it by every limit that it ends by.
pub component_by : (limit m : ℕ) (s : List ℕ) (at : ℕ) → component_form limit s at ≡ true → component_end s at ≤ m
    → component_form m s at ≡ true
component_by limit m s at e h = component_of m s at h (component_marked limit s at e) (component_objects limit s at e)

-- Of components that have their form, the first has it, and those after it have it.
pub components_parts : (n limit : ℕ) (s : List ℕ) (at : ℕ) → components_form (suc n) limit s at ≡ true
    → (component_form limit s at ≡ true) × (components_form n limit s (component_end s at) ≡ true)
components_parts n limit s at e = both_true (component_form limit s at) (components_form n limit s (component_end s at)) e

-- Components that have their form end by the limit.
pub end_within : (n limit : ℕ) (s : List ℕ) (at : ℕ) → at ≤ limit → components_form n limit s at ≡ true
    → end_from n s at ≤ limit
end_within zero limit s at h e = h
end_within (suc n) limit s at h e =
    let p = components_parts n limit s at e in
    end_within n limit s (component_end s at) (component_within limit s at p.0) p.1

-- Components take at least 40 bytes each.
pub end_past : (n : ℕ) (s : List ℕ) (at : ℕ) → at + 40 * n ≤ end_from n s at
end_past zero s at = omega arith
end_past (suc n) s at = omega (arith, end_past n s (component_end s at))

-- The component at each place ends by the limit.
pub place_within : (n limit : ℕ) (s : List ℕ) (at i : ℕ) → components_form n limit s at ≡ true → i < n
    → component_end s (get_or (places_from n s at) i 0) ≤ limit
place_within zero limit s at i e h = absurd (omega arith)
place_within (suc n) limit s at zero e h = component_within limit s at (components_parts n limit s at e).0
place_within (suc n) limit s at (suc i) e h =
    place_within n limit s (component_end s at) i (components_parts n limit s at e).1 (omega arith)

-- What the form by a limit says: "A page has 16 to 512 bytes", so the limit is at least 16; the head has its form, and
-- the components that it counts have theirs. And these three make the form.
pub form_room : (limit : ℕ) (s : List ℕ) → form_by limit s ≡ true → 16 ≤ limit
unfolding form_by
form_room limit s e =
    let p = both_true (leb 16 limit && head_form s) (components_form (counted s) limit s 16) e in
    leb-true 16 limit (both_true (leb 16 limit) (head_form s) p.0).0

pub form_head : (limit : ℕ) (s : List ℕ) → form_by limit s ≡ true → head_form s ≡ true
unfolding form_by
form_head limit s e =
    let p = both_true (leb 16 limit && head_form s) (components_form (counted s) limit s 16) e in
    (both_true (leb 16 limit) (head_form s) p.0).1

pub form_components : (limit : ℕ) (s : List ℕ) → form_by limit s ≡ true → components_form (counted s) limit s 16 ≡ true
unfolding form_by
form_components limit s e = (both_true (leb 16 limit && head_form s) (components_form (counted s) limit s 16) e).1

pub form_of : (limit : ℕ) (s : List ℕ) → 16 ≤ limit → head_form s ≡ true → components_form (counted s) limit s 16 ≡ true
    → form_by limit s ≡ true
unfolding form_by
form_of limit s h e f = true_both (true_both (le-leb 16 limit h) e) f

-- A page that has its form by a limit ends by it.
pub page_within : (limit : ℕ) (s : List ℕ) → form_by limit s ≡ true → page_end s ≤ limit
page_within limit s e = end_within (counted s) limit s 16 (form_room limit s e) (form_components limit s e)

-- "components in the page, at least 1"
pub some_components : (limit : ℕ) (s : List ℕ) → form_by limit s ≡ true → 1 ≤ counted s
unfolding head_form
some_components limit s e =
    let a = eqb (u16_at s 0) 0x4850 && only_first 1 (u16_at s 2) in
    let p = both_true (a && leb 1 (u16_at s 6)) (eqb (u32_at s 12) 0) (form_head limit s e) in
    leb-true 1 (u16_at s 6) (both_true a (leb 1 (u16_at s 6)) p.0).1

-- 512 bytes have room for the head and 12 components.
pub few_components : (limit : ℕ) (s : List ℕ) → form_by limit s ≡ true → limit ≤ 512 → counted s ≤ 12
few_components limit s e h = omega (arith, page_within limit s e, end_past (counted s) s 16)

-- Components that have their form by a limit have it by every greater one.
pub components_grow : (n m limit : ℕ) (s : List ℕ) (at : ℕ) → m ≤ limit → components_form n m s at ≡ true
    → components_form n limit s at ≡ true
components_grow zero m limit s at h e = refl
components_grow (suc n) m limit s at h e =
    let p = components_parts n m s at e in
    let w = component_within m s at p.0 in
    true_both (component_by m limit s at p.0 (omega arith)) (components_grow n m limit s (component_end s at) h p.1)

-- A page that has its form by a limit has it by every greater one.
pub form_grows : (m limit : ℕ) (s : List ℕ) → m ≤ limit → form_by m s ≡ true → form_by limit s ≡ true
form_grows m limit s h e =
    let r = form_room m s e in
    form_of limit s (omega arith) (form_head m s e)
    (components_grow (counted s) m limit s 16 h (form_components m s e))

-- Components that have their form have it by every limit that the last of them ends by.
pub components_shrink : (n limit m : ℕ) (s : List ℕ) (at : ℕ) → components_form n limit s at ≡ true → end_from n s at ≤ m
    → components_form n m s at ≡ true
components_shrink zero limit m s at e h = refl
components_shrink (suc n) limit m s at e h =
    let p = components_parts n limit s at e in
    let w : component_end s at ≤ m = omega (arith, end_past n s (component_end s at)) in
    true_both (component_by limit m s at p.0 w) (components_shrink n limit m s (component_end s at) p.1 h)

-- A page that has its form has it by every limit that it ends by.
pub form_shrinks : (limit m : ℕ) (s : List ℕ) → form_by limit s ≡ true → page_end s ≤ m → form_by m s ≡ true
form_shrinks limit m s e h =
    form_of m s (omega (arith, end_past (counted s) s 16)) (form_head limit s e)
    (components_shrink (counted s) limit m s 16 (form_components limit s e) h)

-- What the form of a page says: "A page has 16 to 512 bytes", these begin with a head and the records that it counts,
-- "and nothing after its last record". And these three make a page.
pub page_short : (s : List ℕ) → page_form s ≡ true → length s ≤ 512
unfolding page_form
page_short s e =
    let p = both_true (leb (length s) 512 && form_by (length s) s) (eqb (page_end s) (length s)) e in
    leb-true (length s) 512 (both_true (leb (length s) 512) (form_by (length s) s) p.0).0

pub page_by : (s : List ℕ) → page_form s ≡ true → form_by (length s) s ≡ true
unfolding page_form
page_by s e =
    let p = both_true (leb (length s) 512 && form_by (length s) s) (eqb (page_end s) (length s)) e in
    (both_true (leb (length s) 512) (form_by (length s) s) p.0).1

pub page_ends : (s : List ℕ) → page_form s ≡ true → page_end s ≡ length s
unfolding page_form
page_ends s e =
    eqb-true (page_end s) (length s)
    (both_true (leb (length s) 512 && form_by (length s) s) (eqb (page_end s) (length s)) e).1

pub page_of : (s : List ℕ) → length s ≤ 512 → form_by (length s) s ≡ true → page_end s ≡ length s → page_form s ≡ true
unfolding page_form
page_of s h e f = true_both (true_both (le-leb (length s) 512 h) e) (eq-eqb (page_end s) (length s) f)
