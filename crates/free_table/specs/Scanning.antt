-- The free table scanned record by record: what a step of growth asks of it, and what is known after some of its records.
-- What is in quotes is document 01's.
use Rattle.std.specs.Prelude.{ℕ, ◌+◌, ◌≤◌, List, [], ◌∷◌, Some, None, is_some, Bool, true, not, cond, ◌&&◌, ltb, eqb, length, take, replicate}
use Rattle.std.proofs.lemmas.List.Edits.{sets}
use Rattle.lists.specs.Tests.{after, any_of}
use Rattle.lists.specs.Counting.{elem}
use Rattle.refusals.specs.declared.Refusal.{Refusal}
use Rattle.free_table.specs.declared.TargetRecord.{TargetRecord}
use Rattle.free_table.specs.declared.Few.{Few}
use Rattle.free_table.specs.declared.Scan.{Scan}
use Rattle.free_table.specs.Table.{listed, target_ok, free_below, usable}
use Rattle.free_table.specs.Choosing.{Choice, next_object, choice_of, with_more}

-- Up to 16 targets.
abbrev pub Targets : Type 0
Targets = Few ℕ

-- Targets in the first places of an array, the rest 0.
unfoldable pub pack_targets : List ℕ → Targets
pack_targets ts = record { count = length ts; items = sets (replicate 16 0) 0 ts }

-- The scan of a table of so many records, before the first of them: nothing refuses the call, every target that is asked for
-- is low, as one that "isn't in the table", none is chosen, and any target may be first.
unfoldable pub new_scan : ℕ → ℕ → Targets → Targets → ℕ → Scan
new_scan records mark asked out wanted =
    record {
      refusal = None;
      records = records;
      mark = mark;
      asked = asked;
      low = replicate 16 true;
      left_out = out;
      wanted = wanted;
      choice = choice_of [];
      from = 0;
    }

-- A scan that is refused.
abbrev pub with_refusal : Refusal → Scan → Scan
with_refusal e s =
    record {
      refusal = Some e;
      records = s.records;
      mark = s.mark;
      asked = s.asked;
      low = s.low;
      left_out = s.left_out;
      wanted = s.wanted;
      choice = s.choice;
      from = s.from;
    }

-- The scan of a call that is refused before the table is looked at: none of its records is.
unfoldable pub refused_scan : Refusal → Scan
refused_scan e = with_refusal e (new_scan 0 0 (pack_targets []) (pack_targets []) 0)

-- The record's target is usable, and it is none of those that are left out.
unfoldable pub eligible : ℕ → List ℕ → TargetRecord → Bool
eligible mark out r = usable mark r && not (elem eqb r.target out)

-- "A target is low if its free bytes are below the mark or it isn't in the table": what a record says of a target if it is the
-- record of that target, else what was known before it.
abbrev pub low_by : ℕ → Bool → ℕ → Bool → Bool
low_by of below target was = cond (eqb of target) below was

-- Which of the targets are low, after a record; `of` is its target, and `below` says that its free bytes are below the mark.
abbrev pub lows_after : ℕ → Bool → List ℕ → List Bool → List Bool
lows_after of below [] low = low
lows_after of below (t ∷ ts) [] = []
lows_after of below (t ∷ ts) (b ∷ low) = low_by of below t b ∷ lows_after of below ts low

-- "takes the S usable ones with the lowest targets, in that order, each with its next number": a record that may be chosen is,
-- as long as fewer than s are.
unfoldable pub choice_after : Choice → ℕ → Bool → TargetRecord → Choice
choice_after choice s may r = cond (ltb choice.count s && may) (with_more choice (next_object r ∷ [])) choice

-- What is known after a record whose target may be where it is. Higher targets come after it.
unfoldable pub told : Scan → TargetRecord → Scan
told s r =
    record {
      refusal = s.refusal;
      records = s.records;
      mark = s.mark;
      asked = s.asked;
      low = lows_after r.target (free_below s.mark r) (listed s.asked) s.low;
      left_out = s.left_out;
      wanted = s.wanted;
      choice = choice_after s.choice s.wanted (eligible s.mark (listed s.left_out) r) r;
      from = r.target + 1;
    }

-- What is known after one record more: "targets strictly rising and at most 65,534, else 15".
unfoldable pub seen : Scan → TargetRecord → Scan
seen s r = cond (is_some s.refusal) s (cond (target_ok s.from r) (told s r) (with_refusal Refusal.Table s))

-- What is known after all the records.
abbrev pub scanned : Scan → List TargetRecord → Scan
scanned s rs = after seen s rs

-- The lists have places for what they count: as many are chosen as are wanted, or fewer, and at most 16.
abbrev pub Fit : Scan → Type 0
Fit s =
    (s.choice.count ≤ s.wanted) × (s.wanted ≤ 16) × (s.asked.count ≤ 16) × (s.left_out.count ≤ 16)

-- Is one of the flags set?
abbrev pub any_set : List Bool → Bool
any_set bs = any_of (λ (b : Bool). b) bs

-- Is one of the targets that were asked for low?
abbrev pub some_low : Scan → Bool
some_low s = any_set (take s.asked.count s.low)
