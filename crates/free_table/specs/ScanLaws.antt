-- Laws of the scan and of the raise of a free table, record by record: what one record more changes, and which objects the next
-- object of a record is none of.
use Rattle.std.specs.Prelude.{ℕ, zero, suc, ◌+◌, ◌-◌, ◌≤◌, ◌<◌, ◌≡◌, refl, List, [], ◌∷◌, is_some, Bool, true, false, cond, ◌&&◌, ltb, length, get_or, take, set}
use Rattle.std.proofs.Common.{ap, sym, ◌∙◌, arith, add-one, length-take, get_or-take, ltb-true, ne_eqb}
use Rattle.lists.specs.Bools.{cond_elim, bool_cases, both_true, clash}
use Rattle.lists.specs.Tests.{after_append}
use Rattle.lists.specs.Slices.{take_next}
use Rattle.lists.specs.Counting.{elem}
use Rattle.layout.specs.declared.Object.{Object}
use Rattle.layout.specs.Records.{no_object}
use Rattle.layout.specs.Rows.{target_of}
use Rattle.layout.specs.Distinct.{same_object}
use Rattle.layout.specs.FactLaws.{same_object_lem}
use Rattle.free_table.specs.declared.TargetRecord.{TargetRecord}
use Rattle.free_table.specs.declared.Scan.{Scan}
use Rattle.free_table.specs.Table.{listed, no_record, target_ok}
use Rattle.free_table.specs.Choosing.{Choice}
use Rattle.free_table.specs.Raising.{past_last}
use Rattle.free_table.specs.Scanning.{eligible, low_by, lows_after, choice_after, told, seen, scanned, Fit}

-- What a record says of one target more.
lows_suc : (of : ℕ) (below : Bool) (ts : List ℕ) (low : List Bool) (i : ℕ) → i < length ts → i < length low
    → (let flags = lows_after of below (take i ts) low in
    set flags i (low_by of below (get_or ts i 0) (get_or flags i false)) ≡ lows_after of below (take (suc i) ts) low)
lows_suc of below [] low i h k = absurd (omega arith)
lows_suc of below (t ∷ ts) [] i h k = absurd (omega arith)
lows_suc of below (t ∷ ts) (b ∷ low) zero h k = refl
lows_suc of below (t ∷ ts) (b ∷ low) (suc i) h k =
    ap (λ (l : List Bool). low_by of below t b ∷ l) (lows_suc of below ts low i (omega arith) (omega arith))

pub lows_next : (of : ℕ) (below : Bool) (ts : List ℕ) (low : List Bool) (i : ℕ) → i < length ts → i < length low
    → (let flags = lows_after of below (take i ts) low in
    set flags i (low_by of below (get_or ts i 0) (get_or flags i false)) ≡ lows_after of below (take (i + 1) ts) low)
lows_next of below ts low i h k = rw (add-one i) (lows_suc of below ts low i h k)

-- A scan after one record more.
pub scanned_next : (s : Scan) (rs : List TargetRecord) (i : ℕ) → i < length rs
    → seen (scanned s (take i rs)) (get_or rs i no_record) ≡ scanned s (take (i + 1) rs)
scanned_next s rs i h =
    sym (ap (scanned s) (take_next rs i no_record h) ∙ after_append seen s (take i rs) (get_or rs i no_record ∷ []))

-- A choice has at most as many objects as are wanted, after one record more too.
pub choice_few : (choice : Choice) (s : ℕ) (may : Bool) (r : TargetRecord) → choice.count ≤ s
    → (choice_after choice s may r).count ≤ s
unfolding choice_after
choice_few choice s may r h =
    bool_cases (ltb choice.count s && may)
    (λ e. let k = ltb-true choice.count s (both_true (ltb choice.count s) may e).0 in rw e (omega arith))
    (λ e. rw e h)

-- What has places still has them after the records.
fit_seen : (s : Scan) (r : TargetRecord) → Fit s → Fit (seen s r)
unfolding seen told
fit_seen s r f =
    cond_elim Fit (is_some s.refusal) (λ e. f)
    (λ e. cond_elim Fit (target_ok s.from r)
    (λ t. (choice_few s.choice s.wanted (eligible s.mark (listed s.left_out) r) r f.0, f.1, f.2, f.3))
    (λ t. f))

pub fit_scanned : (s : Scan) (rs : List TargetRecord) → Fit s → Fit (scanned s rs)
fit_scanned s [] f = f
fit_scanned s (r ∷ rs) f = fit_scanned (seen s r) rs (fit_seen s r f)

-- An object that is among others has a target, and a number, below a bound that is above those of all of them. `of` is the target
-- or the number.
module _ (of : Object → ℕ) (bound : ℕ) where
  pub among_all : (os : List Object) → ((j : ℕ) → j < length os → of (get_or os j no_object) < bound) → (x : Object)
      → elem same_object x os ≡ true → of x < bound
  among_all [] f x e = clash refl (sym e)
  among_all (o ∷ os) f x e =
      bool_cases (same_object x o)
      (λ q. let n = ap of (same_object_lem x o q) in omega (arith, f 0 (omega arith)))
      (λ q. among_all os (λ j h. f (suc j) (omega arith)) x (rw q at e))

  -- The same of the first n of a list.
  pub among_below : (os : List Object) (n : ℕ) → ((j : ℕ) → j < n → of (get_or os j no_object) < bound) → (x : Object)
      → elem same_object x (take n os) ≡ true → of x < bound
  among_below os n f x e =
      among_all (take n os)
      (λ j h. let k : j < n = omega (arith, length-take n os) in rw (get_or-take n os j no_object k) (f j k)) x e

-- An object on a higher target than others is none of them.
pub none_past : (os : List Object) (x : Object) → ((j : ℕ) → j < length os → (get_or os j no_object).target < x.target)
    → elem same_object x os ≡ false
none_past os x f =
    bool_cases (elem same_object x os)
    (λ e. absurd (omega (arith, among_all target_of x.target os f x e))) (λ e. e)

-- A target above that of the last object is above those of all, if the last has the highest.
pub past_all : (os : List Object) (target : ℕ) → past_last os target ≡ true
    → ((j : ℕ) → j < length os → (get_or os j no_object).target ≤ (get_or os (length os - 1) no_object).target)
    → (j : ℕ) → j < length os → (get_or os j no_object).target < target
unfolding past_last
past_all os target e f j h =
    let last = (get_or os (length os - 1) no_object).target in
    let k : ltb last target ≡ true =
    sym (ap (λ (t : Bool). cond t false (ltb last target)) (ne_eqb (length os) 0 (λ z. omega arith))) ∙ e in
    omega (arith, f j h, ltb-true last target k)
