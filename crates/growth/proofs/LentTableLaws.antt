-- A free table that is lent as a list of records: growth of the table that is loaded from it, written back, is growth
-- of the whole list.
use Rattle.std.specs.Prelude.{ℕ, ◌≤◌, ◌<◌, ◌≡◌, List, false, cond, leb, take, Result}
use Rattle.std.proofs.Math.Path.{refl}
use Rattle.std.proofs.Common.{ap, ◌∙◌, ⊎_elim, arith, take_all, leb-true, leb-false}
use Rattle.std.proofs.Math.ListN.{length, length-take}
use Rattle.lists.specs.Bools.{bool_cases}
use Rattle.lists.specs.Slices.{take_sets}
use Rattle.refusals.specs.declared.Refusal.{Refusal}
use Rattle.layout.specs.declared.Layout.{Layout}
use Rattle.layout.specs.Records.{view}
use Rattle.layout.specs.Rules.{valid}
use Rattle.layout.specs.Holder.{last_end}
use Rattle.free_table.specs.declared.TargetRecord.{TargetRecord}
use Rattle.free_table.specs.Table.{Table, table_of, with_records, table_ok, usable}
use Rattle.free_table.specs.LentTable.{places_of, loaded_of, with_nexts}
use Rattle.free_table.proofs.ChoosingLaws.{table_facts}
use Rattle.free_table.proofs.LentTableLaws.{loaded_places, loaded_count, loaded_table, own_nexts, same_nexts}
use Rattle.free_table.proofs.LentTableLaws.{raised_nexts, raised_length}
use Rattle.growth_rules.specs.Steps.{Call}
use Rattle.growth_rules.specs.Growing.{refusing, grow_in, grow_of}
use Rattle.growth_rules.specs.CallFacts.{Changes}
use Rattle.growth_rules.proofs.CallLaws.{call_table}
use Rattle.growth.specs.declared.Grown.{Grown}
use Rattle.growth.specs.Answers.{call_of, grow_says, layout_after, GrownSays}

-- Records that come of others by next numbers alone.
abbrev Renumbered : List TargetRecord → List TargetRecord → Type 0
Renumbered rs ss = (with_nexts rs ss ≡ ss) × (length ss ≡ length rs)

-- So does the table after a call come of the table before it.
call_renumbers : (l : Layout) (k : Call) → Renumbered k.table (grow_of l k).table
call_renumbers l k =
    ⊎_elim (λ e. rw e (same_nexts k.table, refl))
    (λ (c : Changes l k (grow_of l k)). rw c.table (
      raised_nexts (usable k.mark) (length c.objects) k.table,
      raised_length (usable k.mark) (length c.objects) k.table,
    ))
    (call_table l k)

-- A table of more than 64 records is bad.
long_bad : (rs : List TargetRecord) → 64 < length rs → table_ok rs ≡ false
long_bad rs h = bool_cases (table_ok rs) (λ e. absurd (omega (arith, (table_facts rs e).0))) (λ e. e)

-- A call with such a table is refused by this number.
abbrev pub long_number : Layout → ℕ → ℕ
long_number l offset = cond (valid l) (cond (leb (last_end (view l)) offset) 10 15) 1

-- It leaves the layout and the table, whatever the length of the table.
pub long_refused : (l : Layout) (k : Call) → 64 < length k.table → grow_of l k ≡ refusing l k (long_number l k.offset)
unfolding grow_of grow_in
long_refused l k h =
    bool_cases (valid l)
    (λ v. bool_cases (leb (last_end (view l)) k.offset) (λ p. rw (v, p) refl)
    (λ p. rw (v, p, long_bad k.table h) refl))
    (λ v. rw v refl)

-- A table that was loaded, with as many records as it has in place of them, has these records.
loaded_with : (rs ss : List TargetRecord) → length ss ≡ length (take 65 rs) → table_of (with_records (loaded_of rs) ss)
    ≡ ss
loaded_with rs ss h =
    let n : (loaded_of rs).count ≡ length ss = loaded_count rs ∙ omega (arith, length-take 65 rs) in
    rw n (take_sets (loaded_of rs).records ss (omega (arith, loaded_places rs, length-take 65 rs)))

-- Growth of the table that was loaded from lent records, with its next numbers written back to them, is growth of all
-- those records.
module _ (l : Layout) (offset mark : ℕ) (rs : List TargetRecord) where
  -- The call with all the records, and the one with the table that was loaded.
  abbrev all : Call
  all = record { offset = offset; mark = mark; table = rs }

  abbrev seen : Call
  seen = call_of offset mark (table_of (loaded_of rs))

  -- They have the same answer and the same layout, and the table of the one comes of that of the other.
  abbrev Same : Type 0
  Same =
      ((grow_of l seen).answer ≡ (grow_of l all).answer)
      × ((grow_of l seen).layout ≡ (grow_of l all).layout)
      × (with_nexts rs (grow_of l seen).table ≡ (grow_of l all).table)

  -- At most 64 records are loaded whole,
  short_same : length rs ≤ 64 → Same
  short_same h =
      let whole : table_of (loaded_of rs) ≡ rs = loaded_table rs ∙ take_all 65 rs (omega arith) in
      let same : grow_of l seen ≡ grow_of l all =
      ap (λ (t : List TargetRecord). grow_of l (record { offset = offset; mark = mark; table = t })) whole in
      rw same (refl, refl, (call_renumbers l all).0)

  -- and of more the first 65 are, which are as bad.
  long_same : 64 < length rs → Same
  long_same h =
      let many : 64 < length (table_of (loaded_of rs)) = rw (loaded_table rs) (omega (arith, length-take 65 rs)) in
      rw (long_refused l seen many, long_refused l all h, loaded_table rs) (refl, refl, own_nexts 65 rs)

  grown_same : Same
  grown_same =
      bool_cases (leb (length rs) 64) (λ e. short_same (leb-true (length rs) 64 e))
      (λ e. long_same (leb-false (length rs) 64 e))

  -- What growth gave for the table that was loaded, and that table with the records afterwards in its places.
  module _ (r : Result Grown Refusal) (ss : List TargetRecord) (given : GrownSays l r ss (grow_of l seen)) (t : Table)
      (stored : t ≡ with_records (loaded_of rs) ss) where
    -- It has as many records as were loaded,
    pub grown_count : t.count ≡ places_of (length rs)
    grown_count = ap (λ (u : Table). u.count) stored ∙ loaded_count rs

    -- and it says what the call with all the records says, once its next numbers are written back.
    pub grown_says : (grow_says r ≡ (grow_of l all).answer)
        × (layout_after l r ≡ (grow_of l all).layout)
        × (with_nexts rs (table_of t) ≡ (grow_of l all).table)
    grown_says =
        let after : table_of t ≡ (grow_of l seen).table =
        ap table_of (stored ∙ ap (with_records (loaded_of rs)) given.table)
        ∙ loaded_with rs (grow_of l seen).table ((call_renumbers l seen).1 ∙ ap length (loaded_table rs)) in
        (given.answer ∙ grown_same.0, given.layout ∙ grown_same.1, ap (with_nexts rs) after ∙ grown_same.2)
