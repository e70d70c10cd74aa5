-- Components that are at places in the bytes of pages. The places are noted by a walk over the pages.
use Rattle.std.specs.Prelude.{ℕ, ◌≤◌, ◌<◌, ◌≡◌, List, map, false, length, get_or, take}
use Rattle.layout.specs.declared.Component.{Component}
use Rattle.layout.specs.Rules.{rule_broken}
use Rattle.page.specs.Form.{component_end}
use Rattle.page.specs.Content.{component_at}

-- The components at places.
abbrev pub components_at : List ℕ → List ℕ → List Component
components_at s ps = map (component_at s) ps

-- The component at each of the first n places ends by the end of the bytes, its object records with it.
abbrev pub Within : List ℕ → ℕ → List ℕ → Type 0
Within s n ps = (i : ℕ) → i < n → component_end s (get_or ps i 0) ≤ length s

-- The components at the first n places are those of a valid layout.
abbrev pub ValidAt : List ℕ → ℕ → List ℕ → Type 0
ValidAt s n ps = (1 ≤ n) × (n ≤ 16) × Within s n ps × (rule_broken false (components_at s (take n ps)) ≡ 0)
