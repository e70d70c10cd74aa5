-- Laws of the free table: rising targets, low targets and usable ones.
use Rattle.std.specs.Prelude.{ℕ, zero, suc, ◌+◌, ◌≤◌, ◌<◌, ◌≡◌, refl, List, [], ◌∷◌, true, false, not, ◌&&◌, ltb, leb}
use Rattle.std.specs.Prelude.{length, get_or}
use Rattle.std.proofs.Common.{◌∙◌, arith}
use borrow.Author.Tests.{ltb-true, leb-true, le-leb, eq-eqb, ne_eqb, not-true}
use Rattle.lists.specs.Bools.{both_true, true_both}
use Rattle.free_table.specs.declared.TargetRecord.{TargetRecord}
use Rattle.free_table.specs.Table.{no_record, rising, free_below, is_low, usable}

-- What the first record of a rising table says: its target is in bounds, and those after it are above it.
module _ (from : ℕ) (r : TargetRecord) (rs : List TargetRecord) where
  pub first_rises : rising from (r ∷ rs) ≡ true → (from ≤ r.target) × (r.target ≤ 65534)
      × (rising (r.target + 1) rs ≡ true)
  first_rises e =
      let p = both_true (leb from r.target && leb r.target 65534) (rising (r.target + 1) rs) e in
      let q = both_true (leb from r.target) (leb r.target 65534) p.0 in
      (leb-true from r.target q.0, leb-true r.target 65534 q.1, p.1)

  pub rises_first : from ≤ r.target → r.target ≤ 65534 → rising (r.target + 1) rs ≡ true → rising from (r ∷ rs) ≡ true
  rises_first h k e = true_both (true_both (le-leb from r.target h) (le-leb r.target 65534 k)) e

-- Records that rise from a target on rise from each lower one on.
pub rising_lower : (low from : ℕ) (rs : List TargetRecord) → low ≤ from → rising from rs ≡ true → rising low rs ≡ true
rising_lower low from [] h e = refl
rising_lower low from (r ∷ rs) h e = let p = first_rises from r rs e in rises_first low r rs (omega arith) p.1 p.2

-- The targets of a rising table, by their places. They are at least the target that the table rises from,
pub target_above_lem : (from : ℕ) (rs : List TargetRecord) → rising from rs ≡ true → (i : ℕ) → i < length rs
    → from ≤ (get_or rs i no_record).target
target_above_lem from [] e i h = absurd (omega arith)
target_above_lem from (r ∷ rs) e zero h = (first_rises from r rs e).0
target_above_lem from (r ∷ rs) e (suc i) h =
    let p = first_rises from r rs e in omega (arith, target_above_lem (r.target + 1) rs p.2 i (omega arith))

-- at most 65,534,
pub target_most : (from : ℕ) (rs : List TargetRecord) → rising from rs ≡ true → (i : ℕ) → i < length rs
    → (get_or rs i no_record).target ≤ 65534
target_most from [] e i h = absurd (omega arith)
target_most from (r ∷ rs) e zero h = (first_rises from r rs e).1
target_most from (r ∷ rs) e (suc i) h = target_most (r.target + 1) rs (first_rises from r rs e).2 i (omega arith)

-- and each is below those after it.
pub target_rises : (from : ℕ) (rs : List TargetRecord) → rising from rs ≡ true → (i j : ℕ) → i < j → j < length rs
    → (get_or rs i no_record).target < (get_or rs j no_record).target
target_rises from [] e i j h k = absurd (omega arith)
target_rises from (r ∷ rs) e i zero h k = absurd (omega arith)
target_rises from (r ∷ rs) e zero (suc j) h k =
    omega (arith, target_above_lem (r.target + 1) rs (first_rises from r rs e).2 j (omega arith))
target_rises from (r ∷ rs) e (suc i) (suc j) h k =
    target_rises (r.target + 1) rs (first_rises from r rs e).2 i j (omega arith) (omega arith)

-- In a rising table a record's target is low exactly if that record's free bytes are below the mark.
pub low_record : (mark from : ℕ) (rs : List TargetRecord) → rising from rs ≡ true → (i : ℕ) → i < length rs
    → is_low mark rs (get_or rs i no_record).target ≡ free_below mark (get_or rs i no_record)
low_record mark from [] e i h = absurd (omega arith)
low_record mark from (r ∷ rs) e zero h = rw (eq-eqb r.target r.target refl)
low_record mark from (r ∷ rs) e (suc i) h =
    let p = first_rises from r rs e in
    let k = target_above_lem (r.target + 1) rs p.2 i (omega arith) in
    rw (ne_eqb r.target (get_or rs i no_record).target (λ q. omega arith))
    (low_record mark (r.target + 1) rs p.2 i (omega arith))

-- What it is to be usable: free bytes that are not below the mark,
module _ (mark : ℕ) (r : TargetRecord) (e : usable mark r ≡ true) where
  pub usable_free : free_below mark r ≡ false
  unfolding usable
  usable_free = not-true (free_below mark r) (both_true (not (free_below mark r)) (ltb r.next 18446744073709551615) e).0

  -- and a next number below 2^64 - 1.
  pub usable_next : r.next < 18446744073709551615
  unfolding usable
  usable_next =
      ltb-true r.next 18446744073709551615
      (both_true (not (free_below mark r)) (ltb r.next 18446744073709551615) e).1

-- In a rising table a record is usable exactly if its target is not low and its next number is below 2^64 - 1;
pub usable_record : (mark from : ℕ) (rs : List TargetRecord) → rising from rs ≡ true → (i : ℕ) → i < length rs
    → usable mark (get_or rs i no_record)
    ≡ (not (is_low mark rs (get_or rs i no_record).target) && ltb (get_or rs i no_record).next 18446744073709551615)
unfolding usable
usable_record mark from rs e i h = rw (low_record mark from rs e i h)

-- so the target of a usable record is not low, and its next number is below 2^64 - 1.
pub usable_not_low : (mark from : ℕ) (rs : List TargetRecord) → rising from rs ≡ true → (i : ℕ) → i < length rs
    → usable mark (get_or rs i no_record) ≡ true
    → (is_low mark rs (get_or rs i no_record).target ≡ false) × ((get_or rs i no_record).next < 18446744073709551615)
usable_not_low mark from rs e i h u =
    let r = get_or rs i no_record in
    (low_record mark from rs e i h ∙ usable_free mark r u, usable_next mark r u)
