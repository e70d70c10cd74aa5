-- The component at a position of those at the first n places.
use Rattle.std.specs.Prelude.{ℕ, zero, suc, ◌≤◌, ◌<◌, ◌≡◌, refl, List, [], ◌∷◌, length, get_or, take}
use Rattle.std.proofs.Common.{◌∙◌, arith, get_or-take, length-take-le}
use Rattle.layout.specs.declared.Component.{Component}
use Rattle.page.specs.Content.{component_at}
use Rattle.in_place.specs.Places.{components_at}

-- The component at one of the places of a list; what is said to be past the end of a list, d and e, does not matter.
component_of : (s ps : List ℕ) (i d : ℕ) (e : Component) → i < length ps
    → get_or (components_at s ps) i e ≡ component_at s (get_or ps i d)
component_of s [] i d e h = absurd (omega arith)
component_of s (p ∷ ps) zero d e h = refl
component_of s (p ∷ ps) (suc i) d e h = component_of s ps i d e (omega arith)

-- The component at position i of those at the first n places is at place i.
pub component_placed : (s ps : List ℕ) (n i : ℕ) (d : Component) → i < n → n ≤ length ps
    → get_or (components_at s (take n ps)) i d ≡ component_at s (get_or ps i 0)
component_placed s ps n i d h k =
    component_of s (take n ps) i 0 d (omega (arith, length-take-le n ps k)) ∙ rw (get_or-take n ps i 0 h)
