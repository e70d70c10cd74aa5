-- Laws of choosing: how it goes record by record, and what is known of the objects chosen in a good table.
use Prim.Native.Nat.{ℕ, zero, suc, ◌+◌, ◌-◌, ◌≤◌, ◌<◌}
use Rattle.std.specs.Prelude.{◌≡◌, Bool, true, false, cond, ltb, ◌&&◌, leb, length, get_or, drop, set, replicate, ◌⊎◌}
use Rattle.std.proofs.Math.Path.{refl}
use Rattle.std.proofs.Common.{inl, inr, sym, ap, ◌∙◌, arith, zero-add, length-append, leb-true, ltb-true, ltb-false}
use Rattle.std.proofs.Common.{ne_eqb, get_or-take}
use mathlib.Core.List.{List, [], ◌∷◌, ◌++◌, map}
use Rattle.std.proofs.Math.Nat.{sub-zero, suc-sub-suc}
use Rattle.std.proofs.Math.ListN.{take, length-take, length-map, get_or-map}
use Rattle.std.proofs.lemmas.List.Edits.{sets}
use Rattle.lists.specs.Bools.{cond_elim, bool_cases, both_true}
use Rattle.lists.specs.Tests.{along, take_along, every_take}
use Rattle.lists.specs.Slices.{sets_append}
use Rattle.lists.specs.Counting.{count}
use Rattle.layout.specs.declared.Object.{Object}
use Rattle.layout.specs.Records.{no_object, pack_objects}
use Rattle.layout.specs.RecordLaws.{records_pack}
use Rattle.layout.specs.Distinct.{same_object}
use Rattle.layout.specs.FactLaws.{same_object_lem}
use Rattle.free_table.specs.declared.TargetRecord.{TargetRecord}
use Rattle.free_table.specs.Table.{Table, no_record, table_of, target_ok, target_above, rising, table_ok}
use Rattle.free_table.proofs.TableLaws.{first_rises, rises_first, rising_lower, target_most, target_rises}
use Rattle.free_table.specs.Choosing.{Choice, next_object, raised, passing, chosen, raised_first, choice_of, with_more}
use Rattle.free_table.specs.Scanning.{choice_after}

-- A table that is not bad has at most 64 records, and their targets rise.
pub table_facts : (rs : List TargetRecord) → table_ok rs ≡ true → (length rs ≤ 64) × (rising 0 rs ≡ true)
unfolding table_ok
table_facts rs e = let p = both_true (leb (length rs) 64) (rising 0 rs) e in (leb-true (length rs) 64 p.0, p.1)

-- Of a table that is not bad the count is at most 64: its array has 65 places, so a higher count means more than 64
-- records.
pub table_count : (t : Table) → length t.records ≡ 65 → table_ok (table_of t) ≡ true → t.count ≤ 64
table_count t h e = omega (arith, (table_facts (table_of t) e).0, length-take t.count t.records)

-- The next object of the record at a place.
pub next_at : (rs : List TargetRecord) (i : ℕ) → get_or (map next_object rs) i no_object
    ≡ next_object (get_or rs i no_record)
next_at rs i = get_or-map next_object rs i no_record

-- Of the next objects of rising records, none has a target below those of the records,
next_above : (from : ℕ) (rs : List TargetRecord) → rising from rs ≡ true → (o : Object) → o.target < from
    → count same_object o (map next_object rs) ≡ 0
unfolding same_object
next_above from [] e o h = refl
next_above from (r ∷ rs) e o h =
    let p = first_rises from r rs e in
    rw (ne_eqb o.target r.target (λ q. omega arith)) (omega (arith, next_above (r.target + 1) rs p.2 o (omega arith)))

-- and no two of them are the same.
next_once : (from : ℕ) (rs : List TargetRecord) → rising from rs ≡ true → (o : Object)
    → count same_object o (map next_object rs) ≤ 1
next_once from [] e o = omega arith
next_once from (r ∷ rs) e o =
    let p = first_rises from r rs e in
    bool_cases (same_object o (next_object r))
    (λ q. let t = ap (λ (v : Object). v.target) (same_object_lem o (next_object r) q) in
    rw q (omega (arith, next_above (r.target + 1) rs p.2 o (omega arith))))
    (λ q. rw q (omega (arith, next_once (r.target + 1) rs p.2 o)))

-- The first elements of a list, counted, are the first as many.
pub take_count : {A : Type 0} (s : ℕ) (l : List A) → take (length (take s l)) l ≡ take s l
take_count zero l = refl
take_count (suc s) [] = refl
take_count {A} (suc s) (a ∷ l) = ap (λ (m : List A). a ∷ m) (take_count s l)

-- A choice of some objects with more after them is the choice of both.
pub more_chosen : (os more : List Object) → with_more (choice_of os) more ≡ choice_of (os ++ more)
unfolding pack_objects
more_chosen os more =
    let n : length os + length more ≡ length (os ++ more) = sym (length-append os more) in
    let x : sets (pack_objects os) (length os) more ≡ pack_objects (os ++ more) =
    sym (sets_append (replicate 16 no_object) 0 os more ∙ rw zero-add) in
    λ i. record { count = n i; items = x i }

-- Objects put after a choice, and more after these, are both put after it.
pub more_twice : (choice : Choice) (os more : List Object)
    → with_more (with_more choice os) more ≡ with_more choice (os ++ more)
more_twice choice os more =
    let n : choice.count + length os + length more ≡ choice.count + length (os ++ more) =
    omega (arith, length-append os more) in
    let x : sets (sets choice.items choice.count os) (choice.count + length os) more
    ≡ sets choice.items choice.count (os ++ more) = sym (sets_append choice.items choice.count os more) in
    λ i. record { count = n i; items = x i }

-- With no more objects a choice stays as it is.
pub more_none : (choice : Choice) → with_more choice [] ≡ choice
more_none choice =
    let n : choice.count + 0 ≡ choice.count = omega arith in
    λ i. record { count = n i; items = choice.items }

module _ (ok : TargetRecord → Bool) where
  -- If none is to be chosen, or the table is empty, none is.
  pub chosen_none : (rs : List TargetRecord) → chosen ok 0 rs ≡ []
  unfolding chosen
  chosen_none rs = refl

  pub chosen_nil : (s : ℕ) → chosen ok s [] ≡ []
  unfolding chosen
  chosen_nil zero = refl
  chosen_nil (suc s) = refl

  -- A record that passes is chosen first, and one that does not is passed over.
  pub chosen_cons : (s : ℕ) (r : TargetRecord) (rs : List TargetRecord)
      → chosen ok (suc s) (r ∷ rs) ≡ cond (ok r) (next_object r ∷ chosen ok s rs) (chosen ok (suc s) rs)
  unfolding chosen
  chosen_cons s r rs = bool_cases (ok r) (λ e. rw e) (λ e. rw e)

  -- So if the first record passes, and some are to be chosen, it is the first of them;
  pub chosen_first : (s : ℕ) (r : TargetRecord) (rs : List TargetRecord) → 0 < s → ok r ≡ true
      → chosen ok s (r ∷ rs) ≡ next_object r ∷ chosen ok (s - 1) rs
  chosen_first zero r rs h e = absurd (omega arith)
  chosen_first (suc s) r rs h e = rw (chosen_cons s r rs, e, suc-sub-suc, sub-zero)

  -- if it does not pass, all are chosen from the records after it.
  pub chosen_past : (s : ℕ) (r : TargetRecord) (rs : List TargetRecord) → ok r ≡ false
      → chosen ok s (r ∷ rs) ≡ chosen ok s rs
  chosen_past zero r rs e = rw (chosen_none (r ∷ rs), chosen_none rs)
  chosen_past (suc s) r rs e = rw (chosen_cons s r rs, e)

  -- No more are chosen than asked for,
  pub chosen_few : (s : ℕ) (rs : List TargetRecord) → length (chosen ok s rs) ≤ s
  unfolding chosen
  chosen_few s rs = rw (length-map (take s (passing ok rs)) next_object) (omega (arith, length-take s (passing ok rs)))

  -- and to ask for as many as were chosen chooses the same.
  pub chosen_same : (s : ℕ) (rs : List TargetRecord) → chosen ok (length (chosen ok s rs)) rs ≡ chosen ok s rs
  unfolding chosen
  chosen_same s rs =
      rw (length-map (take s (passing ok rs)) next_object)
      (ap (λ (qs : List TargetRecord). map next_object qs) (take_count s (passing ok rs)))

  -- If none is to be chosen, nothing is raised.
  pub raised_none : (rs : List TargetRecord) → raised_first ok 0 rs ≡ rs
  raised_none [] = refl
  raised_none (r ∷ rs) = refl

  -- Of two lists of records, one after the other, the second is asked for what the first leaves to be chosen,
  pub chosen_append : (s : ℕ) (rs qs : List TargetRecord)
      → chosen ok s (rs ++ qs) ≡ chosen ok s rs ++ chosen ok (s - length (chosen ok s rs)) qs
  chosen_append s [] qs = rw (chosen_nil s, sub-zero s)
  chosen_append zero (r ∷ rs) qs = rw (chosen_none (r ∷ (rs ++ qs)), chosen_none (r ∷ rs), chosen_none qs)
  chosen_append (suc s) (r ∷ rs) qs =
      rw (chosen_cons s r (rs ++ qs), chosen_cons s r rs)
      (bool_cases (ok r)
      (λ e. rw (e, suc-sub-suc) (ap (λ (os : List Object). next_object r ∷ os) (chosen_append s rs qs)))
      (λ e. rw e (chosen_append (suc s) rs qs)))

  -- and so is what is raised.
  pub raised_append : (s : ℕ) (rs qs : List TargetRecord)
      → raised_first ok s (rs ++ qs) ≡ raised_first ok s rs ++ raised_first ok (s - length (chosen ok s rs)) qs
  raised_append s [] qs = rw (chosen_nil s, sub-zero s)
  raised_append zero (r ∷ rs) qs = rw (chosen_none (r ∷ rs), raised_none qs)
  raised_append (suc s) (r ∷ rs) qs =
      rw (chosen_cons s r rs)
      (bool_cases (ok r)
      (λ e. rw (e, suc-sub-suc) (ap (λ (ts : List TargetRecord). raised r ∷ ts) (raised_append s rs qs)))
      (λ e. rw e (ap (λ (ts : List TargetRecord). r ∷ ts) (raised_append (suc s) rs qs))))

  -- The table after the choice has as many records.
  pub length_raised : (s : ℕ) (rs : List TargetRecord) → length (raised_first ok s rs) ≡ length rs
  length_raised s [] = refl
  length_raised zero (r ∷ rs) = refl
  length_raised (suc s) (r ∷ rs) =
      bool_cases (ok r) (λ e. rw e (ap suc (length_raised s rs))) (λ e. rw e (ap suc (length_raised (suc s) rs)))

  -- The records that pass rise as the table does,
  passing_rises : (from : ℕ) (rs : List TargetRecord) → rising from rs ≡ true → rising from (passing ok rs) ≡ true
  passing_rises from [] e = refl
  passing_rises from (r ∷ rs) e =
      let p = first_rises from r rs e in
      let q = passing_rises (r.target + 1) rs p.2 in
      cond_elim (λ qs. rising from qs ≡ true) (ok r) (λ u. rises_first from r (passing ok rs) p.0 p.1 q)
      (λ u. rising_lower from (r.target + 1) (passing ok rs) (omega arith) q)

  -- and so do the first s of them.
  first_rise : (from s : ℕ) (rs : List TargetRecord) → rising from rs ≡ true
      → rising from (take s (passing ok rs)) ≡ true
  first_rise from s rs e =
      rw (← take_along target_ok target_above s from (passing ok rs))
      (every_take s (along target_ok target_above from (passing ok rs)) (passing_rises from rs e))

  -- What is chosen from rising records: targets of at most 65,534,
  module _ (from s : ℕ) (rs : List TargetRecord) (e : rising from rs ≡ true) where
    pub chosen_targets : (i : ℕ) → i < length (chosen ok s rs) → (get_or (chosen ok s rs) i no_object).target ≤ 65534
    unfolding chosen
    chosen_targets i h =
        let qs = take s (passing ok rs) in
        rw (next_at qs i) (target_most from qs (first_rise from s rs e) i (omega (arith, length-map qs next_object)))

    -- which rise,
    pub chosen_rise : (i j : ℕ) → i < j → j < length (chosen ok s rs)
        → (get_or (chosen ok s rs) i no_object).target < (get_or (chosen ok s rs) j no_object).target
    unfolding chosen
    chosen_rise i j h k =
        let qs = take s (passing ok rs) in
        rw (next_at qs i, next_at qs j)
        (target_rises from qs (first_rise from s rs e) i j h (omega (arith, length-map qs next_object)))

    -- no object below the lowest target of the table,
    pub chosen_above : (o : Object) → o.target < from → count same_object o (chosen ok s rs) ≡ 0
    unfolding chosen
    chosen_above o h = next_above from (take s (passing ok rs)) (first_rise from s rs e) o h

    -- and no object twice.
    pub chosen_once : (o : Object) → count same_object o (chosen ok s rs) ≤ 1
    unfolding chosen
    chosen_once o = next_once from (take s (passing ok rs)) (first_rise from s rs e) o

-- What is chosen after a record, with what is chosen from the records after it, is what is chosen from all of them.
pub choice_more : (ok : TargetRecord → Bool) (choice : Choice) (w : ℕ) (r : TargetRecord) (rs : List TargetRecord)
    → choice.count ≤ w
    → (let c = choice_after choice w (ok r) r in
    with_more c (chosen ok (w - c.count) rs) ≡ with_more choice (chosen ok (w - choice.count) (r ∷ rs)))
unfolding choice_after
choice_more ok choice w r rs h =
    let all = with_more choice (chosen ok (w - choice.count) (r ∷ rs)) in
    cond_elim (λ (c : Choice). with_more c (chosen ok (w - c.count) rs) ≡ all) (ltb choice.count w && ok r)
    (λ e. let p = both_true (ltb choice.count w) (ok r) e in
    let k = ltb-true choice.count w p.0 in
    let n : w - (choice.count + 1) ≡ w - choice.count - 1 = omega arith in
    more_twice choice (next_object r ∷ []) (chosen ok (w - (choice.count + 1)) rs)
    ∙ ap (λ (m : ℕ). with_more choice (next_object r ∷ chosen ok m rs)) n
    ∙ ap (with_more choice) (sym (chosen_first ok (w - choice.count) r rs (omega arith) p.1)))
    (λ e. bool_cases (ltb choice.count w)
    (λ l. ap (with_more choice) (sym (chosen_past ok (w - choice.count) r rs (rw l at e))))
    (λ l. let k = ltb-false choice.count w l in
    let z : w - choice.count ≡ 0 = omega arith in
    rw (z, chosen_none ok rs, chosen_none ok (r ∷ rs))))

-- If the targets of at most 16 objects are at most n, so is that in the first place that they are packed into, blank or
-- not.
pub first_packed : (os : List Object) (n : ℕ) → length os ≤ 16
    → ((i : ℕ) → i < length os → (get_or os i no_object).target ≤ n)
    → (get_or (pack_objects os) 0 no_object).target ≤ n
unfolding pack_objects
first_packed [] n h f = omega arith
first_packed (o ∷ os) n h f =
    let e : get_or (pack_objects (o ∷ os)) 0 no_object ≡ o =
    sym (get_or-take (length (o ∷ os)) (pack_objects (o ∷ os)) 0 no_object (omega arith))
    ∙ ap (λ (l : List Object). get_or l 0 no_object) (records_pack (o ∷ os) h) in
    rw (ap (λ (v : Object). v.target) e) (f 0 (omega arith))

-- What becomes of records if those before place i stay and of those from i on the first that pass are raised.
abbrev pub raised_from : (TargetRecord → Bool) → ℕ → ℕ → List TargetRecord → List TargetRecord
raised_from ok left i rs = take i rs ++ raised_first ok left (drop i rs)

module _ (ok : TargetRecord → Bool) where
  -- The record at i passes, and some are to be raised: it is raised first.
  pub raised_turn : (left i : ℕ) (rs : List TargetRecord) → i < length rs → 0 < left → ok (get_or rs i no_record) ≡ true
      → raised_from ok (left - 1) (suc i) (set rs i (raised (get_or rs i no_record))) ≡ raised_from ok left i rs
  raised_turn left i [] h p e = absurd (omega arith)
  raised_turn zero zero (r ∷ rs) h p e = absurd (omega arith)
  raised_turn (suc left) zero (r ∷ rs) h p e = rw (e, suc-sub-suc, sub-zero)
  raised_turn left (suc i) (r ∷ rs) h p e =
      ap (λ (qs : List TargetRecord). r ∷ qs) (raised_turn left i rs (omega arith) p e)

  -- None is to be raised, or the record at i does not pass: it is passed over.
  pub passed_turn : (left i : ℕ) (rs : List TargetRecord) → i < length rs
      → (left ≡ 0) ⊎ (ok (get_or rs i no_record) ≡ false)
      → raised_from ok left (suc i) rs ≡ raised_from ok left i rs
  passed_turn left i [] h e = absurd (omega arith)
  passed_turn zero zero (r ∷ rs) h e = rw (raised_none ok rs)
  passed_turn (suc left) zero (r ∷ rs) h (inl z) = absurd (omega arith)
  passed_turn (suc left) zero (r ∷ rs) h (inr e) = rw e
  passed_turn left (suc i) (r ∷ rs) h e =
      ap (λ (qs : List TargetRecord). r ∷ qs) (passed_turn left i rs (omega arith) e)
