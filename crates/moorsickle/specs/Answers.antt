-- What the answer of a call of growth says.
use Rattle.std.specs.Prelude.{Result, Ok, Err}
use Rattle.refusals.specs.declared.Refusal.{Refusal}
use Rattle.refusals.specs.Refusals.{number_of}
use Rattle.mapping.specs.Answers.{Answer, gives, refuses}
use Rattle.growth_rules.specs.Growing as growing
use Rattle.growth.specs.declared.Effect.{Effect}

-- Case by case: `Ok` whether the offset has a home and whether the layout changed, `Err` the number of the refusal.
abbrev pub grow_says : Result Effect Refusal → Answer growing.Effect
grow_says (Ok e) = gives (record { home = e.home; changed = e.changed })
grow_says (Err e) = refuses (number_of e)
