-- What a call of growth comes to, in three cases.
use Rattle.std.specs.Prelude.{ℕ, ◌+◌, ◌≡◌, List, [], ◌∷◌, true, false, eqb, length}
use Rattle.lists.specs.Counting.{elem}
use Rattle.layout.specs.declared.Object.{Object}
use Rattle.layout.specs.declared.Component.{Component}
use Rattle.layout.specs.declared.Layout.{Layout}
use Rattle.layout.specs.Records.{packed}
use Rattle.free_table.specs.Table.{usable}
use Rattle.free_table.specs.Choosing.{raised_first}
use Rattle.growth_rules.specs.Steps.{Call}
use Rattle.growth_rules.specs.Growing.{Outcome, refusing, accepting}
use Rattle.growth_rules.specs.CallFacts.{Grown}

-- "Growth: 1, 10, 15 to 19."
abbrev pub growth_refusals : List ℕ
growth_refusals = 1 ∷ 10 ∷ 15 ∷ 16 ∷ 17 ∷ 18 ∷ 19 ∷ []

-- The cases: the call is refused by one of the numbers; it is accepted, and nothing changes; or it is accepted with a change.
pub data Called (l : Layout) (k : Call) : Outcome → Type 0 where
  refused : (n : ℕ) → elem eqb n growth_refusals ≡ true → Called l k (refusing l k n)
  unchanged : Called l k (accepting l k false l k.table)
  grown : (cs : List Component) (os : List Object) → Grown l k cs os
      → Called l k (accepting l k true (packed (l.generation + 1) cs) (raised_first (usable k.mark) (length os) k.table))
