-- What is known of the components at the first n places, if they are those of a valid layout.
use Rattle.std.specs.Prelude.{ℕ, ◌+◌, ◌<◌, ◌≡◌, List, ◌∷◌, true, false, length, get_or, take}
use Rattle.std.proofs.Common.{arith}
use Rattle.std.proofs.Math.Seq.{slice}
use Rattle.layout.specs.Records.{no_component}
use Rattle.layout.specs.Facts.{Kind, IsInit, Keeps}
use Rattle.layout.specs.FactLaws.{keeps_facts, kind_init}
use Rattle.layout.specs.ArrayLaws.{kind_at}
use Rattle.page.specs.Content.{component_at}
use Rattle.in_place.specs.Places.{components_at, ValidAt}
use Rattle.in_place.specs.FirstPlaces.{components_next, components_length}
use Rattle.placed_mapping.specs.FirstPlaces.{component_placed}

module _ (s ps : List ℕ) (n : ℕ) (v : ValidAt s n ps) where
  -- They keep the component rules.
  pub valid_keeps : Keeps false (components_at s (take n ps))
  valid_keeps = keeps_facts false (components_at s (take n ps)) v.3

  module _ (sixteen : length ps ≡ 16) where
    -- There are n of them.
    pub valid_length : length (components_at s (take n ps)) ≡ n
    valid_length = components_length s ps n (omega arith)

    module _ (i : ℕ) (h : i < n) where
      -- Position i of the list is place i.
      pub valid_at : get_or (components_at s (take n ps)) i no_component ≡ component_at s (get_or ps i 0)
      valid_at = component_placed s ps n i no_component h (omega arith)

      -- The component at each place is of one of the three kinds.
      pub valid_kind : Kind (component_at s (get_or ps i 0))
      valid_kind =
          rw valid_at
          at (kind_at (components_at s (take n ps)) valid_keeps.fields no_component i (omega (arith, valid_length)))

      -- If its init flag is set, it is an init component.
      pub valid_init : (component_at s (get_or ps i 0)).init ≡ true → IsInit (component_at s (get_or ps i 0))
      valid_init e = kind_init valid_kind e

      -- The components from place i on are the one there and those at the places after it.
      pub valid_next : components_at s (slice i n ps)
          ≡ component_at s (get_or ps i 0) ∷ components_at s (slice (i + 1) n ps)
      valid_next = components_next s ps n i h (omega arith)
