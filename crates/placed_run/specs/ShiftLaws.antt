-- What is at a place of the bytes after a position is that much further in all bytes.
use Rattle.std.specs.Prelude.{ℕ, ◌+◌, ◌≡◌, List, map, drop}
use Rattle.std.proofs.Common.{drop-drop}
use Rattle.std.proofs.lemmas.Simd.{map-map}
use Rattle.page.specs.Form.{records_at, counted, places_from, page_places}
use Rattle.page.specs.Content.{component_at, components_of}
use Rattle.page.specs.PlaceLaws.{records_from, component_from}
use Rattle.in_place.specs.Places.{components_at}

module _ (s : List ℕ) (base at : ℕ) where
  pub records_shift : records_at s (base + at) ≡ records_at (drop base s) at
  records_shift = rw (records_from s (base + at), records_from (drop base s) at, drop-drop at base s)

  pub component_shift : component_at s (base + at) ≡ component_at (drop base s) at
  component_shift = rw (component_from s (base + at), component_from (drop base s) at, drop-drop at base s)

-- Components at places.
components_shift : (s : List ℕ) (base : ℕ) (ps : List ℕ)
    → components_at s (map (λ (p : ℕ). base + p) ps) ≡ map (component_at (drop base s)) ps
components_shift s base ps = simp (map-map, component_shift s base)

-- The components at the places of the page that begins at a position are those of that page.
pub placed_components : (s : List ℕ) (at : ℕ) → components_at s (page_places at (drop at s)) ≡ components_of (drop at s)
unfolding components_of
placed_components s at = components_shift s at (places_from (counted (drop at s)) (drop at s) 16)
