-- The components at places, by the places: what a loop over the places asks for.
use Rattle.std.specs.Prelude.{ℕ, ◌+◌, ◌-◌, ◌≤◌, ◌<◌, min, ◌≡◌, List, [], ◌∷◌, ◌++◌, Some, None, length, get_or, take, drop, slice_get}
use Rattle.std.proofs.Common.{refl, ap, sym, ◌∙◌, arith, length-append, drop_of_length-le}
use Rattle.std.proofs.Math.Seq.{take-length}
use Rattle.std.proofs.lemmas.Option.{slice_get_within, slice_get-get_or, get_or_from_slice_get}
use Rattle.std.proofs.lemmas.List.{map-append, length-map}
use Rattle.lists.specs.Tests.{after_append}
use Rattle.lists.specs.Slices.{drop_next, take_next}
use Rattle.layout.specs.Records.{neighbour_of, neighbours_of, records_of, records_in}
use Rattle.page.specs.Form.{records_at}
use Rattle.page.specs.Content.{component_at}
use Rattle.in_place.specs.Places.{components_at}
use Rattle.in_place.specs.RecordLaws.{records_length}
use Rattle.in_place.specs.Joining.{none_before, last_of}

no_last : (ps : List ℕ) → slice_get ps (length ps - 1) ≡ None → ps ≡ []
no_last [] e = refl
no_last (p ∷ ps) e =
    let t : slice_get (p ∷ ps) (length (p ∷ ps) - 1) ≡ Some _ = slice_get-get_or (p ∷ ps) (length (p ∷ ps) - 1) 0 (omega arith) in
    absurd cc

module _ (s ps : List ℕ) where
  module _ (i : ℕ) (h : i < length ps) where
    -- The components from place i on are the one at place i and those from place i + 1 on.
    pub components_next : components_at s (drop i ps) ≡ component_at s (get_or ps i 0) ∷ components_at s (drop (i + 1) ps)
    components_next = rw (drop_next ps i 0 h)

    -- Their object records are those of the component at place i and those of the rest:
    pub records_next : records_in (components_at s (drop i ps))
        ≡ records_of (component_at s (get_or ps i 0)) ++ records_in (components_at s (drop (i + 1) ps))
    records_next = rw components_next

    -- as many as are after place i, at most 16, and as many as the rest have.
    pub total_next : length (records_in (components_at s (drop i ps)))
        ≡ min 16 (records_at s (get_or ps i 0)) + length (records_in (components_at s (drop (i + 1) ps)))
    total_next = rw (records_next, length-append, records_length s (get_or ps i 0))

  -- From the last place on there are none.
  pub components_done : (i : ℕ) → length ps ≤ i → components_at s (drop i ps) ≡ []
  components_done i h = rw (drop_of_length-le ps {i = i} h)

  -- There are as many components as places.
  pub components_length : length (components_at s ps) ≡ length ps
  components_length = length-map ps (component_at s)

  -- The last of them is the component at the last place.
  pub last_some : (p : ℕ) → slice_get ps (length ps - 1) ≡ Some p → last_of none_before (neighbours_of (components_at s ps)) ≡ neighbour_of (component_at s p)
  last_some p e =
      let h : 0 < length ps = omega (arith, slice_get_within ps (length ps - 1) p e) in
      let w : length ps - 1 + 1 ≡ length ps = omega arith in
      let t : take (length ps - 1) ps ++ (get_or ps (length ps - 1) 0 ∷ []) ≡ ps =
      sym (take_next ps (length ps - 1) 0 (omega arith)) ∙ rw w (take-length ps) in
      let g : get_or ps (length ps - 1) 0 ≡ p = get_or_from_slice_get ps (length ps - 1) p 0 e in
      ap (λ (l : List ℕ). last_of none_before (neighbours_of (components_at s l))) (sym t)
      ∙ rw (map-append, map-append, after_append, g)

  -- With no place, it is what is taken as the one before the first.
  pub last_none : slice_get ps (length ps - 1) ≡ None → last_of none_before (neighbours_of (components_at s ps)) ≡ none_before
  last_none e = rw (no_last ps e)
