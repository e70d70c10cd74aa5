-- The components at places, if they are those of a valid layout.
use Rattle.std.specs.Prelude.{ℕ, ◌<◌, ◌≤◌, ◌≡◌, List, length, get_or, take}
use Rattle.std.proofs.Common.{sym, ap, ◌∙◌, arith, length-take-le, get_or-take}
use Rattle.std.proofs.lemmas.List.{length-map, get_or-map}
use Rattle.std.proofs.Math.Seq.{take-length}
use Rattle.layout.specs.Records.{no_component}
use Rattle.page.specs.Form.{component_end}
use Rattle.page.specs.Content.{component_at}
use Rattle.in_place.specs.Places.{components_at, ValidAt}
use Rattle.mapping.specs.Components.{AreValid}

module _ (s ps : List ℕ) where
  -- The component at a position is the one at that place.
  module _ (i : ℕ) (h : i < length (components_at s ps)) where
    stands : i < length ps
    stands = omega (arith, length-map ps (component_at s))

    pub component_placed : get_or (components_at s ps) i no_component ≡ component_at s (get_or ps i 0)
    component_placed = get_or-map (component_at s) ps i 0 no_component stands

    -- It ends by the end of the bytes.
    pub component_within : ValidAt s (length ps) ps → component_end s (get_or ps i 0) ≤ length s
    component_within v = v.2 i stands

  -- They are the components of a valid layout.
  pub placed_valid : ValidAt s (length ps) ps → AreValid (components_at s ps)
  placed_valid v =
      let n = length-map ps (component_at s) in
      (omega (arith, n, v.0), omega (arith, n, v.1), rw take-length at v.3)

-- The first n of a list of places, as a list of its own.
pub valid_taken : (s ps : List ℕ) (n : ℕ) → n ≤ length ps → ValidAt s n ps → ValidAt s (length (take n ps)) (take n ps)
valid_taken s ps n h v =
    let same : length (take n ps) ≡ n = length-take-le n ps h in
    let below : (i : ℕ) → i < n → component_end s (get_or (take n ps) i 0) ≤ length s
    = λ i k. rw (get_or-take n ps i 0 k) (v.2 i k) in
    let e : take n (take n ps) ≡ take n ps = ap (λ (k : ℕ). take k (take n ps)) (sym same) ∙ take-length (take n ps) in
    rw same (v.0, v.1, below, rw e v.3)
