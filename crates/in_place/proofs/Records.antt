-- The object records of the component at a position of a list of places.
use Rattle.std.specs.Prelude.{ℕ, zero, suc, ◌+◌, ◌*◌, ◌<◌, ◌≤◌, min, ◌≡◌, List, length, get_or}
use Rattle.std.proofs.Common.{ap, ◌∙◌, arith}
use Rattle.std.proofs.lemmas.List.{length-map, get_or-map}
use Rattle.layout.specs.Records.{no_object, no_component, records_of}
use Rattle.page.specs.Form.{records_at}
use Rattle.page.specs.Content.{object_at, objects_at, component_at}
use Rattle.in_place.specs.Places.{components_at, Within}
use Rattle.in_place.specs.RecordLaws.{component_records, records_length}

-- The object record at position j of the n from a place on.
objects_nth : (n : ℕ) (s : List ℕ) (at j : ℕ) → j < n → get_or (objects_at n s at) j no_object
    ≡ object_at s (at + 16 * j)
objects_nth zero s at j h = absurd (omega arith)
objects_nth (suc n) s at zero h = ap (object_at s) (omega arith)
objects_nth (suc n) s at (suc j) h =
    let e : at + 16 + 16 * j ≡ at + 16 * suc j = omega arith in
    objects_nth n s (at + 16) j (omega arith) ∙ ap (object_at s) e

module _ (s ps : List ℕ) (i : ℕ) (h : i < length (components_at s ps)) where
  pub stands : i < length ps
  stands = omega (arith, length-map ps (component_at s))

  -- The component at the position is the one at that place.
  pub placed : get_or (components_at s ps) i no_component ≡ component_at s (get_or ps i 0)
  placed = get_or-map (component_at s) ps i 0 no_component stands

  -- It has as many object records as are after it, at most 16.
  pub placed_count : length (records_of (get_or (components_at s ps) i no_component))
      ≡ min 16 (records_at s (get_or ps i 0))
  placed_count = rw placed (records_length s (get_or ps i 0))

  module _ (j : ℕ) (k : j < length (records_of (get_or (components_at s ps) i no_component))) where
    below : j < min 16 (records_at s (get_or ps i 0))
    below = omega (arith, k, placed_count)

    -- Each is in its place after the component,
    pub placed_record : get_or (records_of (get_or (components_at s ps) i no_component)) j no_object
        ≡ object_at s (get_or ps i 0 + 40 + 16 * j)
    placed_record = rw (placed, component_records) (objects_nth (min 16 (records_at s (get_or ps i 0))) s
        (get_or ps i 0 + 40) j below)

    -- and ends by the end of the bytes.
    pub record_within : Within s (length ps) ps → get_or ps i 0 + 40 + 16 * j + 16 ≤ length s
    record_within w = omega (arith, w i stands, below)
