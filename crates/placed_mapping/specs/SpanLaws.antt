-- The laws of components at places as cutting sees them.
use Rattle.std.specs.Prelude.{ℕ, ◌+◌, ◌-◌, ◌≤◌, ◌<◌, ◌≡◌, List, [], ◌∷◌, length, get_or, take}
use Rattle.std.proofs.Common.{ap, ◌∙◌, arith}
use Rattle.std.proofs.lemmas.List.{map-append}
use Rattle.std.proofs.Math.Seq.{slice}
use Rattle.lists.specs.Tests.{after_append}
use Rattle.lists.specs.Slices.{take_next}
use Rattle.layout.specs.Holder.{last_end}
use Rattle.page.specs.Content.{component_at}
use Rattle.in_place.specs.Places.{components_at, ValidAt}
use Rattle.mapping.specs.Spans.{spans_of, Cuttable}
use Rattle.placed_mapping.specs.Spans.{span_at, spans_at}
use Rattle.in_place.specs.FirstPlaces.{components_done}
use Rattle.placed_mapping.specs.ValidLaws.{valid_init, valid_next}

-- Past the last place there are none.
pub spans_done : (s ps : List ℕ) (n i : ℕ) → n ≤ i → spans_at s (slice i n ps) ≡ []
spans_done s ps n i h = ap spans_of (components_done s ps n i h)

-- The components at the first n places are those of a valid layout.
module _ (s ps : List ℕ) (n : ℕ) (v : ValidAt s n ps) (sixteen : length ps ≡ 16) where
  module _ (i : ℕ) (h : i < n) where
    -- Those from place i on are the one there and those at the places after it.
    pub spans_next : spans_at s (slice i n ps) ≡ span_at s (get_or ps i 0) ∷ spans_at s (slice (i + 1) n ps)
    spans_next = ap spans_of (valid_next s ps n v sixteen i h)

    -- Each can be cut.
    pub cuttable_at : Cuttable (span_at s (get_or ps i 0))
    cuttable_at e =
        let k = (valid_init s ps n v sixteen i h e).striped in
        (omega (arith, k.size.nonzero, k.size.multiple), k.some)

  -- The last end is that of the component at the last of the n places.
  pub last_end_at : last_end (components_at s (take n ps)) ≡ (component_at s (get_or ps (n - 1) 0)).end
  last_end_at =
      let e : n ≡ n - 1 + 1 = omega arith in
      ap (λ (k : ℕ). last_end (components_at s (take k ps))) e
      ∙ rw (take_next ps (n - 1) 0 (omega arith), map-append, map-append, after_append)
