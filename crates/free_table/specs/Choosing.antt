-- Choosing targets. What is in quotes is document 01's. The test of a record, `ok`, is that its target is usable; in a
-- scan also that it is not left out.
use Rattle.std.specs.Prelude.{ℕ, zero, suc, ◌+◌, List, [], ◌∷◌, map, Bool, cond, length, take}
use Rattle.std.proofs.lemmas.List.Edits.{sets}
use Rattle.layout.specs.declared.Object.{Object}
use Rattle.layout.specs.Records.{pack_objects}
use Rattle.layout.specs.Rows.{object_of}
use Rattle.free_table.specs.declared.TargetRecord.{TargetRecord}
use Rattle.free_table.specs.declared.Few.{Few}

-- Objects on chosen targets.
abbrev pub Choice : Type 0
Choice = Few Object

-- The next object on a target.
abbrev pub next_object : TargetRecord → Object
next_object r = object_of r.target r.next

-- A record whose "next number .. goes up by 1".
abbrev pub raised : TargetRecord → TargetRecord
raised r = record { target = r.target; free = r.free; next = r.next + 1 }

-- The records that pass the test, in their order.
abbrev pub passing : (TargetRecord → Bool) → List TargetRecord → List TargetRecord
passing ok [] = []
passing ok (r ∷ rs) = cond (ok r) (r ∷ passing ok rs) (passing ok rs)

-- "Choosing S targets takes the S usable ones with the lowest targets, in that order, each with its next number": the first s
-- that pass, since targets rise in the table. They are fewer than s if fewer pass.
unfoldable pub chosen : (TargetRecord → Bool) → ℕ → List TargetRecord → List Object
chosen ok s rs = map next_object (take s (passing ok rs))

-- The table after the choice: the next numbers of the first s records that pass are raised. "Nothing else in the table
-- changes."
abbrev pub raised_first : (TargetRecord → Bool) → ℕ → List TargetRecord → List TargetRecord
raised_first ok s [] = []
raised_first ok zero (r ∷ rs) = r ∷ rs
raised_first ok (suc s) (r ∷ rs) = cond (ok r) (raised r ∷ raised_first ok s rs) (r ∷ raised_first ok (suc s) rs)

-- Chosen objects, in the first places of a choice, the rest blank.
abbrev pub choice_of : List Object → Choice
choice_of os = record { count = length os; items = pack_objects os }

-- A choice with more objects after its own.
abbrev pub with_more : Choice → List Object → Choice
with_more choice os = record { count = choice.count + length os; items = sets choice.items choice.count os }
