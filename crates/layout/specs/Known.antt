-- What a check takes as known that starts at a position of the layout: the components before it were asked already.
use Rattle.std.specs.Prelude.{ℕ, ◌-◌, ◌≤◌, ◌≡◌, List, Bool, true, length, take}
use Rattle.lists.specs.Tests.{every}
use Rattle.layout.specs.declared.Component.{Component}
use Rattle.layout.specs.declared.Neighbour.{Neighbour}
use Rattle.layout.specs.declared.Layout.{Layout}
use Rattle.layout.specs.Records.{view}
use Rattle.layout.specs.Neighbours.{begin_tests, follow_tests, empty_tests}
use Rattle.layout.specs.Rules.{rule_broken}

-- The first `from` of a rule's tests, one for each of n components, pass; `from` is at most n.
abbrev pub Passed : ℕ → ℕ → List Bool → Type 0
Passed from n tests = (from ≤ n) × (every (take from tests) ≡ true)

-- The first `from` of n components pass the tests of the neighbour rule, as far as they can be asked with pages outstanding: the
-- last of them is not asked about its follower.
pub record Joined (from n : ℕ) (list : List Neighbour) : Type 0 where
  pub within : from ≤ n
  pub few : n ≤ 16
  pub begins : every (take from (begin_tests list)) ≡ true
  pub follows : every (take from (follow_tests list)) ≡ true
  pub empties : every (take (from - 1) (empty_tests list)) ≡ true

-- The first `from` of at most 16 components break no rule with pages outstanding.
abbrev pub Kept : ℕ → List Component → Type 0
Kept from cs = (from ≤ length cs) × (length cs ≤ 16) × (rule_broken true (take from cs) ≡ 0)

-- The first `from` components of a layout break no rule with pages outstanding; it has at most 16, and at least `from`.
abbrev pub RulesKnown : ℕ → Layout → Type 0
RulesKnown from l = (from ≤ l.count) × (l.count ≤ 16) × (rule_broken true (take from (view l)) ≡ 0)
