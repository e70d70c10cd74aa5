-- Laws of a free table that is lent as a list of records: how it is loaded and written back record by record.
use Rattle.std.specs.Prelude.{ℕ, zero, suc, ◌+◌, ◌≤◌, ◌<◌, ◌≡◌, List, [], ◌∷◌, ◌++◌, Bool, leb, get_or, take, drop}
use Rattle.std.specs.Prelude.{replicate}
use Rattle.std.proofs.Math.Path.{refl}
use Rattle.std.proofs.Common.{ap, sym, ◌∙◌, arith, add-one, take_all, leb-true, leb-false, take-append-drop}
use Rattle.std.proofs.Math.Nat.{zero-add}
use Rattle.std.proofs.Math.ListN.{length, set, length-take, length-replicate}
use Rattle.std.proofs.Math.Seq.{take-length, length-take-le, length-sets}
use Rattle.std.proofs.lemmas.List.Edits.{sets, sets-eq}
use Rattle.lists.specs.Bools.{bool_cases}
use Rattle.lists.specs.Slices.{take_next, sets_append, take_sets}
use Rattle.free_table.specs.declared.TargetRecord.{TargetRecord}
use Rattle.free_table.specs.Table.{Table, no_record, table_of, with_records}
use Rattle.free_table.specs.Choosing.{raised_first}
use Rattle.free_table.proofs.ChoosingLaws.{take_count}
use Rattle.free_table.specs.LentTable.{places_of, empty_table, with_record, loaded_first, loaded_of, with_next}
use Rattle.free_table.specs.LentTable.{with_nexts}

-- The 65 places of a table with no record in them.
abbrev blank : List TargetRecord
blank = replicate 65 no_record

-- As many of the first records as have a place are the first 65.
take_places : (rs : List TargetRecord) → take (places_of (length rs)) rs ≡ take 65 rs
take_places rs =
    bool_cases (leb (length rs) 65)
    (λ e. let h : length rs ≤ 65 = leb-true (length rs) 65 e in
    take_all (places_of (length rs)) rs (omega arith) ∙ sym (take_all 65 rs h))
    (λ e. let h : 65 < length rs = leb-false (length rs) 65 e in
    let n : places_of (length rs) ≡ 65 = omega arith in
    rw n refl)

-- Loading record by record: a table with none of the records in its places,
module _ (rs : List TargetRecord) where
  pub load_none : empty_table (places_of (length rs)) ≡ loaded_first 0 rs
  unfolding loaded_first
  load_none = refl

  -- one record more,
  pub load_more : (i : ℕ) → i < length rs → with_record (loaded_first i rs) i (get_or rs i no_record)
      ≡ loaded_first (i + 1) rs
  unfolding loaded_first with_record empty_table
  load_more i h =
      let n : 0 + length (take i rs) ≡ i = zero-add (length (take i rs)) ∙ length-take-le i rs (omega arith) in
      let more : set (sets blank 0 (take i rs)) i (get_or rs i no_record) ≡ sets blank 0 (take (i + 1) rs) =
      rw (take_next rs i no_record h, sets_append blank 0 (take i rs) (get_or rs i no_record ∷ []), n) refl in
      λ j. record { count = places_of (length rs); records = more j }

  -- and all that have a place.
  pub load_all : loaded_first (places_of (length rs)) rs ≡ loaded_of rs
  unfolding loaded_first
  load_all = rw (take_places rs) refl

  -- A loaded table has 65 places,
  pub loaded_places : length (loaded_of rs).records ≡ 65
  unfolding loaded_first empty_table
  loaded_places = length-sets blank 0 (take 65 rs) ∙ length-replicate 65 no_record

  -- as many records as have a place,
  pub loaded_count : (loaded_of rs).count ≡ places_of (length rs)
  unfolding loaded_first empty_table
  loaded_count = refl

  -- and these are the first 65.
  pub loaded_table : table_of (loaded_of rs) ≡ take 65 rs
  unfolding loaded_first empty_table
  loaded_table =
      let n : places_of (length rs) ≡ length (take 65 rs) = omega (arith, length-take 65 rs) in
      rw n (take_sets blank (take 65 rs) (omega (arith, length-take 65 rs, length-replicate 65 no_record)))

-- Writing back record by record: one next number more,
write_suc : (rs ss : List TargetRecord) (i : ℕ) → i < length rs → i < length ss
    → set (with_nexts rs (take i ss)) i (with_next (get_or (with_nexts rs (take i ss)) i no_record)
    (get_or ss i no_record).next)
    ≡ with_nexts rs (take (suc i) ss)
write_suc [] ss i h k = absurd (omega arith)
write_suc (r ∷ rs) [] i h k = absurd (omega arith)
write_suc (r ∷ rs) (s ∷ ss) zero h k = refl
write_suc (r ∷ rs) (s ∷ ss) (suc i) h k =
    ap (λ (l : List TargetRecord). with_next r s.next ∷ l) (write_suc rs ss i (omega arith) (omega arith))

pub write_more : (rs ss : List TargetRecord) (i : ℕ) → i < length rs → i < length ss
    → set (with_nexts rs (take i ss)) i (with_next (get_or (with_nexts rs (take i ss)) i no_record)
    (get_or ss i no_record).next)
    ≡ with_nexts rs (take (i + 1) ss)
write_more rs ss i h k = rw (add-one i) (write_suc rs ss i h k)

-- which leaves the records as many as they were,
pub write_length : (rs ss : List TargetRecord) → length (with_nexts rs ss) ≡ length rs
write_length rs [] = refl
write_length [] (s ∷ ss) = refl
write_length (r ∷ rs) (s ∷ ss) = ap suc (write_length rs ss)

-- Records get their own next numbers back: they stay as they are.
pub own_nexts : (n : ℕ) (rs : List TargetRecord) → with_nexts rs (take n rs) ≡ rs
own_nexts zero rs = refl
own_nexts (suc n) [] = refl
own_nexts (suc n) (r ∷ rs) = ap (λ (l : List TargetRecord). r ∷ l) (own_nexts n rs)

pub same_nexts : (rs : List TargetRecord) → with_nexts rs rs ≡ rs
same_nexts rs = ap (with_nexts rs) (sym (take-length rs)) ∙ own_nexts (length rs) rs

-- The table after a choice differs from the one before it by next numbers alone: they make the one out of the other,
module _ (ok : TargetRecord → Bool) where
  pub raised_nexts : (s : ℕ) (rs : List TargetRecord) → with_nexts rs (raised_first ok s rs) ≡ raised_first ok s rs
  raised_nexts s [] = refl
  raised_nexts zero (r ∷ rs) = same_nexts (r ∷ rs)
  raised_nexts (suc s) (r ∷ rs) =
      bool_cases (ok r)
      (λ e. rw e (ap (λ (l : List TargetRecord). with_next r (r.next + 1) ∷ l) (raised_nexts s rs)))
      (λ e. rw e (ap (λ (l : List TargetRecord). r ∷ l) (raised_nexts (suc s) rs)))

  -- and it is as long.
  pub raised_length : (s : ℕ) (rs : List TargetRecord) → length (raised_first ok s rs) ≡ length rs
  raised_length s [] = refl
  raised_length zero (r ∷ rs) = refl
  raised_length (suc s) (r ∷ rs) =
      bool_cases (ok r) (λ e. rw e (ap suc (raised_length s rs))) (λ e. rw e (ap suc (raised_length (suc s) rs)))

-- The first elements of a list stored where they are leave the list as it was.
stored_same : {A : Type 0} (l : List A) (n : ℕ) → sets l 0 (take n l) ≡ l
stored_same {A} l n =
    let m = length (take n l) in
    sets-eq (take n l) l 0 (omega (arith, length-take n l))
    ∙ rw zero-add (ap (λ (t : List A). t ++ drop m l) (sym (take_count n l)) ∙ take-append-drop m l)

-- A table with its own records is the same table.
pub same_table : (t : Table) → t ≡ with_records t (table_of t)
same_table t =
    let e : t.records ≡ sets t.records 0 (table_of t) = sym (stored_same t.records t.count) in
    λ i. record { count = t.count; records = e i }
