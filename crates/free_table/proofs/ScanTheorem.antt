-- What is known of a free table after it was scanned: whether it is bad, and of a good one what was chosen and whether
-- a target that was asked for is low. It is what the definitions over the whole table say.
use Rattle.std.specs.Prelude.{ℕ, zero, suc, ◌+◌, ◌-◌, ◌≤◌, ◌<◌, ◌≡◌, Some, None, is_some, Bool, true, false, cond, ◌&&◌}
use Rattle.std.specs.Prelude.{◌||◌, eqb, length, get_or, take, replicate}
use Rattle.std.proofs.Math.Path.{refl, ap}
use Rattle.std.proofs.Common.{sym, ◌∙◌, arith, ne_eqb, eqb-true}
use mathlib.Core.List.{List, [], ◌∷◌}
use Rattle.std.proofs.Math.Nat.{sub-zero}
use Rattle.lists.specs.Bools.{cond_elim, bool_cases, both_true, clash}
use Rattle.lists.specs.Tests.{any_of}
use Rattle.lists.specs.Slices.{take_sets}
use Rattle.layout.specs.declared.Object.{Object}
use Rattle.layout.specs.Records.{no_object}
use Rattle.layout.specs.Rows.{targets_of}
use Rattle.refusals.specs.declared.Refusal.TheVariants as Refusal
use Rattle.free_table.specs.declared.TargetRecord.{TargetRecord}
use Rattle.free_table.specs.declared.Scan.{Scan}
use Rattle.free_table.specs.Table.{listed, no_record, target_ok, rising, free_below, is_low, any_low, usable}
use Rattle.free_table.specs.Choosing.{chosen, choice_of, with_more}
use Rattle.free_table.specs.Scanning.{Targets, pack_targets, new_scan, with_refusal, eligible, low_by, lows_after, told}
use Rattle.free_table.specs.Scanning.{seen, scanned, any_set, some_low}
use Rattle.free_table.proofs.TableLaws.{first_rises}
use Rattle.free_table.proofs.ChoosingLaws.{more_chosen, more_none, chosen_nil, choice_more}
use Rattle.free_table.proofs.ChosenLaws.{chosen_usable}
use Rattle.free_table.specs.ScanLaws.{choice_few}

-- One record, by cases. If its target may be where it is, what it tells is taken in;
module _ (s : Scan) (r : TargetRecord) where
  pub seen_good : s.refusal ≡ None → target_ok s.from r ≡ true → seen s r ≡ told s r
  unfolding seen
  seen_good e t = rw (e, t)

  -- another one refuses the call;
  pub seen_bad : s.refusal ≡ None → target_ok s.from r ≡ false → seen s r ≡ with_refusal Refusal.Table s
  unfolding seen
  seen_bad e t = rw (e, t)

  -- and if the call is refused, no record changes anything.
  pub seen_refused : is_some s.refusal ≡ true → seen s r ≡ s
  unfolding seen
  seen_refused e = rw e

-- A call that is refused stays so: the records after that change nothing.
pub scanned_kept : (s : Scan) (rs : List TargetRecord) → is_some s.refusal ≡ true → scanned s rs ≡ s
scanned_kept s [] e = refl
scanned_kept s (r ∷ rs) e = ap (λ (v : Scan). scanned v rs) (seen_refused s r e) ∙ scanned_kept s rs e

-- From a scan that is not refused, records that do not rise are refused with 15,
bad_from : (s : Scan) (rs : List TargetRecord) → s.refusal ≡ None → rising s.from rs ≡ false
    → (scanned s rs).refusal ≡ Some Refusal.Table
unfolding told
bad_from s [] e h = clash refl h
bad_from s (r ∷ rs) e h =
    bool_cases (target_ok s.from r)
    (λ t. ap (λ (v : Scan). (scanned v rs).refusal) (seen_good s r e t) ∙ bad_from (told s r) rs e (rw t at h))
    (λ t. ap (λ (v : Scan). (scanned v rs).refusal) (seen_bad s r e t)
    ∙ ap (λ (v : Scan). v.refusal) (scanned_kept (with_refusal Refusal.Table s) rs refl))

-- What the first of rising records tells is taken in, and those after it rise from there on.
first_told : (s : Scan) (r : TargetRecord) (rs : List TargetRecord) → s.refusal ≡ None → rising s.from (r ∷ rs) ≡ true
    → (scanned s (r ∷ rs) ≡ scanned (told s r) rs) × (rising (told s r).from rs ≡ true)
unfolding told
first_told s r rs e h =
    let p = both_true (target_ok s.from r) (rising (r.target + 1) rs) h in
    (ap (λ (v : Scan). scanned v rs) (seen_good s r e p.0), p.1)

-- Records that rise are not refused.
good_from : (s : Scan) (rs : List TargetRecord) → s.refusal ≡ None → rising s.from rs ≡ true
    → (scanned s rs).refusal ≡ None
unfolding told
good_from s [] e h = e
good_from s (r ∷ rs) e h =
    let p = first_told s r rs e h in
    ap (λ (v : Scan). v.refusal) p.0 ∙ good_from (told s r) rs e p.1

-- After records that rise, the choice is what was chosen before them, followed by what is chosen from them.
choice_from : (s : Scan) (rs : List TargetRecord) → s.refusal ≡ None → rising s.from rs ≡ true
    → s.choice.count ≤ s.wanted
    → (scanned s rs).choice
    ≡ with_more s.choice (chosen (eligible s.mark (listed s.left_out)) (s.wanted - s.choice.count) rs)
unfolding told
choice_from s [] e h k =
    let ok = eligible s.mark (listed s.left_out) in
    sym (ap (with_more s.choice) (chosen_nil ok (s.wanted - s.choice.count)) ∙ more_none s.choice)
choice_from s (r ∷ rs) e h k =
    let ok = eligible s.mark (listed s.left_out) in
    let p = first_told s r rs e h in
    ap (λ (v : Scan). v.choice) p.0
    ∙ choice_from (told s r) rs e p.1 (choice_few s.choice s.wanted (ok r) r k)
    ∙ choice_more ok s.choice s.wanted r rs k

-- Is a target low? `was` is the answer for one that is not in the table.
abbrev low_else : ℕ → List TargetRecord → ℕ → Bool → Bool
low_else mark [] target was = was
low_else mark (r ∷ rs) target was = cond (eqb r.target target) (free_below mark r) (low_else mark rs target was)

-- Which of the targets are low? The flag of each is the answer if it is not in the table.
abbrev lows_else : ℕ → List TargetRecord → List ℕ → List Bool → List Bool
lows_else mark rs [] low = low
lows_else mark rs (t ∷ ts) [] = []
lows_else mark rs (t ∷ ts) (b ∷ low) = low_else mark rs t b ∷ lows_else mark rs ts low

-- If the answer is then that it is low, this is what it is to be low.
low_else_lem : (mark : ℕ) (rs : List TargetRecord) (t : ℕ) → low_else mark rs t true ≡ is_low mark rs t
low_else_lem mark [] t = refl
low_else_lem mark (r ∷ rs) t = ap (cond (eqb r.target t) (free_below mark r)) (low_else_lem mark rs t)

-- A target below those of a rising table is not in it.
else_below : (mark from : ℕ) (rs : List TargetRecord) → rising from rs ≡ true → (t : ℕ) (was : Bool) → t < from
    → low_else mark rs t was ≡ was
else_below mark from [] e t was h = refl
else_below mark from (r ∷ rs) e t was h =
    let p = first_rises from r rs e in
    rw (ne_eqb r.target t (λ q. omega arith)) (else_below mark (r.target + 1) rs p.2 t was (omega arith))

-- What the first record says of a target, the others leave: a target is once in a rising table.
else_first : (mark from : ℕ) (r : TargetRecord) (rs : List TargetRecord) → rising from (r ∷ rs) ≡ true
    → (t : ℕ) (was : Bool)
    → low_else mark rs t (low_by r.target (free_below mark r) t was) ≡ low_else mark (r ∷ rs) t was
else_first mark from r rs e t was =
    let p = first_rises from r rs e in
    bool_cases (eqb r.target t)
    (λ q. let n = eqb-true r.target t q in
    rw q (else_below mark (r.target + 1) rs p.2 t (free_below mark r) (omega arith)))
    (λ q. rw q)

-- The same of all the targets.
lows_first : (mark from : ℕ) (r : TargetRecord) (rs : List TargetRecord) → rising from (r ∷ rs) ≡ true
    → (ts : List ℕ) (low : List Bool)
    → lows_else mark rs ts (lows_after r.target (free_below mark r) ts low) ≡ lows_else mark (r ∷ rs) ts low
lows_first mark from r rs e [] low = refl
lows_first mark from r rs e (t ∷ ts) [] = refl
lows_first mark from r rs e (t ∷ ts) (b ∷ low) =
    let x = else_first mark from r rs e t b in
    let y = lows_first mark from r rs e ts low in
    λ i. x i ∷ y i

-- A table with no records says nothing of them.
lows_nil : (mark : ℕ) (ts : List ℕ) (low : List Bool) → lows_else mark [] ts low ≡ low
lows_nil mark [] low = refl
lows_nil mark (t ∷ ts) [] = refl
lows_nil mark (t ∷ ts) (b ∷ low) = ap (λ (l : List Bool). b ∷ l) (lows_nil mark ts low)

-- After records that rise, the flag of each target that is asked for is what its record says. With no record it stays.
lows_from : (s : Scan) (rs : List TargetRecord) → s.refusal ≡ None → rising s.from rs ≡ true
    → (scanned s rs).low ≡ lows_else s.mark rs (listed s.asked) s.low
unfolding told
lows_from s [] e h = sym (lows_nil s.mark (listed s.asked) s.low)
lows_from s (r ∷ rs) e h =
    let p = first_told s r rs e h in
    ap (λ (v : Scan). v.low) p.0 ∙ lows_from (told s r) rs e p.1
    ∙ lows_first s.mark s.from r rs h (listed s.asked) s.low

-- If all the flags were set at first, one is set after the records exactly if a target is low.
lows_any : (mark : ℕ) (rs : List TargetRecord) (ts : List ℕ) (n : ℕ) → length ts ≤ n
    → any_set (take (length ts) (lows_else mark rs ts (replicate n true))) ≡ any_of (λ (t : ℕ). is_low mark rs t) ts
lows_any mark rs [] n h = refl
lows_any mark rs (t ∷ ts) zero h = absurd (omega arith)
lows_any mark rs (t ∷ ts) (suc n) h =
    let x = low_else_lem mark rs t in
    let y = lows_any mark rs ts n (omega arith) in
    λ i. x i || y i

-- The targets asked for never change.
seen_asked : (s : Scan) (r : TargetRecord) → (seen s r).asked ≡ s.asked
unfolding seen told
seen_asked s r =
    cond_elim (λ (v : Scan). v.asked ≡ s.asked) (is_some s.refusal) (λ e. refl)
    (λ e. cond_elim (λ (v : Scan). v.asked ≡ s.asked) (target_ok s.from r) (λ t. refl) (λ t. refl))

pub scanned_asked : (s : Scan) (rs : List TargetRecord) → (scanned s rs).asked ≡ s.asked
scanned_asked s [] = refl
scanned_asked s (r ∷ rs) = scanned_asked (seen s r) rs ∙ seen_asked s r

-- What is known after all the records of a table, from the beginning on.
module _ (n mark : ℕ) (asked out : Targets) (w : ℕ) (rs : List TargetRecord) where
  -- "targets strictly rising and at most 65,534, else 15"
  pub scan_bad : rising 0 rs ≡ false → (scanned (new_scan n mark asked out w) rs).refusal ≡ Some Refusal.Table
  unfolding new_scan
  scan_bad e = bad_from (new_scan n mark asked out w) rs refl e

  -- Of a table whose targets rise: the call is not refused,
  module _ (e : rising 0 rs ≡ true) where
    pub scan_good : (scanned (new_scan n mark asked out w) rs).refusal ≡ None
    unfolding new_scan
    scan_good = good_from (new_scan n mark asked out w) rs refl e

    -- the first targets that are usable and not left out are chosen, as many as are wanted, or all if they are fewer,
    pub scan_choice : (scanned (new_scan n mark asked out w) rs).choice
        ≡ choice_of (chosen (eligible mark (listed out)) w rs)
    unfolding new_scan
    scan_choice =
        choice_from (new_scan n mark asked out w) rs refl e (omega arith)
        ∙ more_chosen [] (chosen (eligible mark (listed out)) (w - 0) rs)
        ∙ ap (λ (k : ℕ). choice_of (chosen (eligible mark (listed out)) k rs)) (sub-zero w)

    -- and one of the targets that are asked for is low exactly if one is low in the table.
    pub scan_low : length (listed asked) ≡ asked.count → asked.count ≤ 16
        → some_low (scanned (new_scan n mark asked out w) rs) ≡ any_of (λ (t : ℕ). is_low mark rs t) (listed asked)
    unfolding new_scan
    scan_low h k =
        let s = new_scan n mark asked out w in
        ap (λ (a : Targets). any_set (take a.count (scanned s rs).low)) (scanned_asked s rs)
        ∙ ap (λ (l : List Bool). any_set (take asked.count l)) (lows_from s rs refl e)
        ∙ ap (λ (m : ℕ). any_set (take m (lows_else mark rs (listed asked) (replicate 16 true)))) (sym h)
        ∙ lows_any mark rs (listed asked) 16 (omega arith)

-- Targets that are packed into a list are counted, and if they are at most 16 they are the targets of the list.
pub pack_count : (ts : List ℕ) → (pack_targets ts).count ≡ length ts
unfolding pack_targets
pack_count ts = refl

pub listed_pack : (ts : List ℕ) → length ts ≤ 16 → listed (pack_targets ts) ≡ ts
unfolding pack_targets
listed_pack ts h = take_sets (replicate 16 0) ts h

-- If nothing is left out, what is eligible is what is usable.
pub eligible_all : (mark : ℕ) → eligible mark [] ≡ usable mark
unfolding eligible
eligible_all mark =
    let h : (r : TargetRecord) → (usable mark r && true) ≡ usable mark r =
    λ r. bool_cases (usable mark r) (λ e. rw e) (λ e. rw e) in
    λ i r. h r i

-- One of the object records lies on a low target exactly if one of their targets is low.
pub low_targets : (mark : ℕ) (rs : List TargetRecord) (os : List Object)
    → any_low mark rs os ≡ any_of (λ (t : ℕ). is_low mark rs t) (targets_of os)
low_targets mark rs [] = refl
low_targets mark rs (o ∷ os) = ap (λ (b : Bool). is_low mark rs o.target || b) (low_targets mark rs os)

-- If the next number of each record that passes is below 2^64 - 1, so are the numbers of the objects chosen.
pub chosen_numbers : (ok : TargetRecord → Bool) → ((r : TargetRecord) → ok r ≡ true → r.next < 18446744073709551615)
    → (s : ℕ) (rs : List TargetRecord) (j : ℕ) → j < length (chosen ok s rs)
    → (get_or (chosen ok s rs) j no_object).number < 18446744073709551615
chosen_numbers ok f s rs j h =
    let p = chosen_usable ok s rs j h in
    rw (ap (λ (o : Object). o.number) p.3) (f (get_or rs p.0 no_record) p.2)
