-- The components at the first n of a list of places, by the places.
use Rattle.std.specs.Prelude.{ℕ, ◌+◌, ◌-◌, ◌≤◌, ◌<◌, min, ◌≡◌, List, [], ◌∷◌, ◌++◌, length, get_or, take}
use Rattle.std.proofs.Common.{ap, ◌∙◌, arith, length-append, length-take-le}
use Rattle.std.proofs.lemmas.List.{map-append, length-map}
use Rattle.std.proofs.Math.Seq.{slice}
use Rattle.lists.specs.Tests.{after_append}
use Rattle.lists.specs.Slices.{slice_next, slice_done, take_next}
use Rattle.layout.specs.Records.{neighbour_of, neighbours_of, records_of, records_in}
use Rattle.page.specs.Form.{records_at}
use Rattle.page.specs.Content.{component_at}
use Rattle.in_place.specs.Places.{components_at}
use Rattle.in_place.specs.RecordLaws.{records_length}
use Rattle.in_place.specs.Joining.{none_before, last_of}

module _ (s ps : List ℕ) where
  -- The components from place i up to place n are the one at place i and those from place i + 1 on.
  pub components_next : (n i : ℕ) → i < n → i < length ps
      → components_at s (slice i n ps) ≡ component_at s (get_or ps i 0) ∷ components_at s (slice (i + 1) n ps)
  components_next n i h k = rw (slice_next ps n i 0 h k)

  -- From place n on there are none.
  pub components_done : (n i : ℕ) → n ≤ i → components_at s (slice i n ps) ≡ []
  components_done n i h = rw (slice_done ps n i h)

  module _ (n i : ℕ) (h : i < n) (k : i < length ps) where
    -- Their object records are those of the component at place i and those of the rest:
    pub records_next : records_in (components_at s (slice i n ps))
        ≡ records_of (component_at s (get_or ps i 0)) ++ records_in (components_at s (slice (i + 1) n ps))
    records_next = rw (components_next n i h k)

    -- as many as are after place i, at most 16, and as many as the rest have.
    pub total_next : length (records_in (components_at s (slice i n ps)))
        ≡ min 16 (records_at s (get_or ps i 0)) + length (records_in (components_at s (slice (i + 1) n ps)))
    total_next = rw (records_next, length-append, records_length s (get_or ps i 0))

  -- There are as many components as places.
  pub components_length : (n : ℕ) → n ≤ length ps → length (components_at s (take n ps)) ≡ n
  components_length n h = length-map (take n ps) (component_at s) ∙ length-take-le n ps h

  -- Directly before position i is the component at the place before.
  pub last_before : (i : ℕ) → 0 < i → i ≤ length ps
      → last_of none_before (neighbours_of (components_at s (take i ps))) ≡ neighbour_of (component_at s (get_or ps (i - 1) 0))
  last_before i h k =
      let e : i ≡ i - 1 + 1 = omega arith in
      ap (λ (j : ℕ). last_of none_before (neighbours_of (components_at s (take j ps)))) e
      ∙ rw (take_next ps (i - 1) 0 (omega arith), map-append, map-append, after_append)
