-- The form of a page (refusal 3), field by field as document 01's section "Pages" has it. A place is where a record
-- begins in the bytes. Bytes past the end of a list read as 0, and no record that reaches past the limit has its form.
use Rattle.std.specs.Prelude.{ℕ, zero, suc, ◌+◌, ◌*◌, List, [], ◌∷◌, map, Option, Some, None, Bool, true, cond, ◌&&◌, eqb, leb, length}
use Rattle.bytes_le.specs.Numbers.{u16_at, u32_at}
use Rattle.bytes_le.specs.Flags.{is_set, only_first}
use Rattle.layout.specs.Records.{count_of}

-- "Object, 16 bytes: mark 4F 42; two zero bytes"
unfoldable pub object_form : List ℕ → ℕ → Bool
object_form s at = eqb (u16_at s at) 0x424F && eqb (u16_at s (at + 2)) 0

-- The n object records from a place on have their form.
abbrev pub objects_form : ℕ → List ℕ → ℕ → Bool
objects_form zero s at = true
objects_form (suc n) s at = object_form s at && objects_form n s (at + 16)

-- "Component, 40 bytes: mark 43 50; u16 flags, of which only bits 0 (init) and 1 (extension) may be set"
unfoldable pub component_marks : List ℕ → ℕ → Bool
component_marks s at = eqb (u16_at s at) 0x5043 && only_first 2 (u16_at s (at + 2))

-- The number of object records after the component: "If init, as many object records as the stripe count follow".
unfoldable pub records_at : List ℕ → ℕ → ℕ
records_at s at = count_of (is_set 0 (u16_at s (at + 2))) (u16_at s (at + 6))

-- Where a component with n object records ends.
abbrev pub ends_at : ℕ → ℕ → ℕ
ends_at at n = at + 40 + 16 * n

-- Where the component at a place ends, its object records with it.
abbrev pub component_end : List ℕ → ℕ → ℕ
component_end s at = ends_at at (records_at s at)

-- Where something ends, if it has its form; else `None`.
abbrev pub end_if : Bool → ℕ → Option ℕ
end_if formed end = cond formed (Some end) None

-- The component at a place has its form, its object records too, and ends by the limit.
unfoldable pub component_form : ℕ → List ℕ → ℕ → Bool
component_form limit s at =
    leb (component_end s at) limit && component_marks s at && objects_form (records_at s at) s (at + 40)

-- The n components from a place on, one after the other, have their form and end by the limit.
abbrev pub components_form : ℕ → ℕ → List ℕ → ℕ → Bool
components_form zero limit s at = true
components_form (suc n) limit s at = component_form limit s at && components_form n limit s (component_end s at)

-- The places of the n components from a place on.
abbrev pub places_from : ℕ → List ℕ → ℕ → List ℕ
places_from zero s at = []
places_from (suc n) s at = at ∷ places_from n s (component_end s at)

-- Where the n components from a place on end.
abbrev pub end_from : ℕ → List ℕ → ℕ → ℕ
end_from zero s at = at
end_from (suc n) s at = end_from n s (component_end s at)

-- "Page head, 16 bytes: mark 50 48; u16 flags (bit 0 more, the rest 0); .. u16 components in the page, at least 1; ..
-- four zero bytes."
unfoldable pub head_form : List ℕ → Bool
head_form s = eqb (u16_at s 0) 0x4850 && only_first 1 (u16_at s 2) && leb 1 (u16_at s 6) && eqb (u32_at s 12) 0

-- The number of components that the head counts.
abbrev pub counted : List ℕ → ℕ
counted s = u16_at s 6

-- The places of the components of the page that the bytes begin with, counted from `base` bytes before it.
abbrev pub page_places : ℕ → List ℕ → List ℕ
page_places base s = map (λ (p : ℕ). base + p) (places_from (counted s) s 16)

-- Where the page ends that the bytes begin with: "each ending after the records its head counts".
abbrev pub page_end : List ℕ → ℕ
page_end s = end_from (counted s) s 16

-- The bytes begin with a head and the records that it counts, each of its form, and these end by the limit.
unfoldable pub form_by : ℕ → List ℕ → Bool
form_by limit s = leb 16 limit && head_form s && components_form (counted s) limit s 16

-- The bytes are a page: "A page has 16 to 512 bytes and nothing after its last record." If this fails, refusal 3
-- applies.
unfoldable pub page_form : List ℕ → Bool
page_form s = leb (length s) 512 && form_by (length s) s && eqb (page_end s) (length s)
