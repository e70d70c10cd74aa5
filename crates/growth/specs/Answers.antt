-- What the answer of `grow` says.
use Rattle.std.specs.Prelude.{ℕ, ◌≡◌, List, Result, Ok, Err}
use Rattle.refusals.specs.declared.Refusal.{Refusal}
use Rattle.refusals.specs.Refusals.{number_of}
use Rattle.layout.specs.declared.Layout.{Layout}
use Rattle.mapping.specs.Answers.{Answer, gives, refuses}
use Rattle.free_table.specs.declared.TargetRecord.{TargetRecord}
use Rattle.growth_rules.specs.Steps.{Call}
use Rattle.growth_rules.specs.Growing.{Effect, Outcome}
use Rattle.growth.specs.declared.Grown.{Grown}

-- A call with an offset, a low mark and a table.
abbrev pub call_of : ℕ → ℕ → List TargetRecord → Call
call_of offset mark rs = record { offset = offset; mark = mark; table = rs }

-- What the answer of `grow` says, case by case: `Ok` whether the offset has a home and whether the layout changed, `Err` the
-- number of the refusal.
unfoldable pub grow_says : Result Grown Refusal → Answer Effect
grow_says (Ok g) = gives (record { home = g.effect.home; changed = g.effect.changed })
grow_says (Err e) = refuses (number_of e)

-- The layout after a call that was handed in the layout l: that one, if the call is refused.
abbrev pub layout_after : Layout → Result Grown Refusal → Layout
layout_after l (Ok g) = g.layout
layout_after l (Err e) = l

-- What `grow` gives of the layout l, and the table afterwards, is this outcome: the answer, the whole layout and the whole table.
pub record GrownSays (l : Layout) (r : Result Grown Refusal) (rs : List TargetRecord) (o : Outcome) : Type 0 where
  pub answer : grow_says r ≡ o.answer
  pub layout : layout_after l r ≡ o.layout
  pub table : rs ≡ o.table
