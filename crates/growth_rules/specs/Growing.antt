-- What a call of growth gives: the answer or the refusal, the layout and the table. What is in quotes is document 01's.
use Rattle.std.specs.Prelude.{ℕ, ◌+◌, List, Bool, true, false, cond, ltb, leb, eqb, length}
use Rattle.lists.specs.Tests.{any_of}
use Rattle.lists.specs.Counting.{elem}
use Rattle.layout.specs.declared.Object.{Object}
use Rattle.layout.specs.declared.Layout.{Layout}
use Rattle.layout.specs.Records.{ids_of, records_in, view, packed}
use Rattle.layout.specs.Distinct.{same_object}
use Rattle.layout.specs.Rules.{valid}
use Rattle.layout.specs.Holder.{last_end}
use Rattle.mapping.specs.Answers.{Answer, gives, refuses}
use Rattle.mapping.specs.Homes.{has_home}
use Rattle.free_table.specs.declared.TargetRecord.{TargetRecord}
use Rattle.free_table.specs.Table.{usable, table_ok}
use Rattle.free_table.specs.Choosing.{raised_first}
use Rattle.growth_rules.specs.Parts.{fresh_id}
use Rattle.growth_rules.specs.Steps.{Call, Step, stays, lacks, changes, step_on}

-- What an accepted call tells: "whether the offset now has a home", and whether the layout changed.
pub record Effect : Type 0 where
  pub home : Bool
  pub changed : Bool

-- What a call gives: its answer, and the layout and the table afterwards.
pub record Outcome : Type 0 where
  pub answer : Answer Effect
  pub layout : Layout
  pub table : List TargetRecord

-- "a chosen target and number already stand in the layout" (18): does one of the object records name the object of another?
abbrev pub meets : List Object → List Object → Bool
meets os others = any_of (λ (o : Object). elem same_object o others) os

-- The highest generation, 2^32 - 1: it is not raised (19).
abbrev pub highest_generation : ℕ
highest_generation = 4294967295

-- The step of a call on a layout.
abbrev pub step_of : Layout → Call → Step
step_of l k = step_on k (fresh_id (ids_of (view l))) (view l)

module _ (l : Layout) (k : Call) where
  -- Refused by a number: "A refusal returns its number only; all lent memory keeps its bytes."
  abbrev pub refusing : ℕ → Outcome
  refusing n = record { answer = refuses n; layout = l; table = k.table }

  -- Accepted, with this layout and table afterwards.
  abbrev pub accepting : Bool → Layout → List TargetRecord → Outcome
  accepting changed after rs =
      record {
        answer = gives (record { home = has_home k.offset (view after); changed = changed });
        layout = after;
        table = rs;
      }

  -- What a step gives: 16, "too few usable targets"; 17, "growth would leave 17 components"; 18; 19, "a change is due and the
  -- generation is 2^32 - 1"; else the changed layout, where "Each change adds 1 to the generation", and the table with the next
  -- numbers of the chosen targets raised.
  unfoldable pub outcome_of : Step → Outcome
  outcome_of stays = accepting false l k.table
  outcome_of lacks = refusing 16
  outcome_of (changes cs os) =
      cond (ltb 16 (length cs)) (refusing 17)
      (cond (meets os (records_in (view l))) (refusing 18)
      (cond (eqb l.generation highest_generation) (refusing 19)
      (accepting true (packed (l.generation + 1) cs) (raised_first (usable k.mark) (length os) k.table))))

  -- What a call gives on a valid layout: 10, "a byte asked for lies at or past the last component's end"; 15, "free table bad"; else
  -- what its step gives.
  unfoldable pub grow_in : Outcome
  grow_in =
      cond (leb (last_end (view l)) k.offset) (refusing 10) (cond (table_ok k.table) (outcome_of (step_of l k)) (refusing 15))

  -- What a call gives, 1 if the layout is not valid.
  unfoldable pub grow_of : Outcome
  grow_of = cond (valid l) grow_in (refusing 1)
