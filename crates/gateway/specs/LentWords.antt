-- What the parts of the host's growth give: a table loaded from words, the pages of a layout from one of them on, and a step.
use Rattle.std.specs.Prelude.{ℕ, ◌+◌, ◌-◌, ◌*◌, ◌≤◌, min, ◌≡◌, List, map, cond, leb, length, get_or, take, Result}
use Rattle.refusals.specs.declared.Refusal.{Refusal}
use Rattle.layout.specs.declared.Layout.{Layout}
use Rattle.round_trip.specs.Pages.{written_from, back_to_back}
use Rattle.mapping.specs.Answers.{gives}
use Rattle.free_table.specs.declared.TargetRecord.{TargetRecord}
use Rattle.growth_rules.specs.Growing.{Effect, Outcome}
use Rattle.growth.specs.declared.Grown.{Grown}
use Rattle.growth.specs.Answers.{grow_says, layout_after}
use Rattle.gateway.specs.HostGrowth.{cut_record, word_table}

-- A record as a table in memory has it. Targets above 65,534 are equally bad, and are there as 65,535.
abbrev pub held_record : TargetRecord → TargetRecord
held_record r = record { target = min 65535 r.target; free = r.free; next = r.next }

-- The record whose words begin at a place.
unfoldable pub record_at : List ℕ → ℕ → TargetRecord
record_at ws p =
    cond (leb (p + 3) (length ws))
    (record { target = get_or ws p 0; free = get_or ws (p + 1) 0; next = get_or ws (p + 2) 0 })
    cut_record

-- The first n records of words, as a table in memory has them.
abbrev pub first_held : ℕ → List ℕ → List TargetRecord
first_held n ws = take n (map held_record (word_table ws))

-- The pages of a layout from page k on, back to back.
unfoldable pub pages_from : Layout → ℕ → List ℕ
pages_from l k = back_to_back (written_from (16 - k) k l)

-- What growth gave of a layout l and the records loaded from words is this outcome; if it was accepted, the records afterwards
-- are those of the outcome, and each is in three of the words.
pub record StepSays (l : Layout) (ws : List ℕ) (r : Result Grown Refusal) (rs : List TargetRecord) (o : Outcome) : Type 0 where
  pub answer : grow_says r ≡ o.answer
  pub layout : layout_after l r ≡ o.layout
  pub table : (e : Effect) → o.answer ≡ gives e → (rs ≡ o.table) × (3 * length rs ≤ length ws)
