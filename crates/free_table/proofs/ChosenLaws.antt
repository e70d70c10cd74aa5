-- What is chosen, record by record: the lowest targets that pass, and no others; and what of the table changes.
use Rattle.std.specs.Prelude.{ℕ, zero, suc, ◌+◌, ◌<◌, ◌≡◌, refl, List, [], ◌∷◌, map, Bool, true, false, length, get_or}
use Rattle.std.proofs.Common.{sym, ◌∙◌, inl, inr, ⊎_elim, arith, get_or-take}
use Rattle.std.proofs.Math.Path.{ap, subst}
use Rattle.std.proofs.Math.ListN.{take, length-take, length-map}
use Rattle.lists.specs.Bools.{bool_cases}
use Rattle.lists.specs.Counting.{elem, elem_true}
use Rattle.layout.specs.declared.Object.{Object}
use Rattle.layout.specs.Records.{no_object}
use Rattle.layout.specs.Distinct.{same_object}
use Rattle.layout.specs.FactLaws.{same_object_lem, same_object_refl}
use Rattle.free_table.specs.declared.TargetRecord.{TargetRecord}
use Rattle.free_table.specs.Table.{no_record, rising}
use Rattle.free_table.specs.Choosing.{next_object, raised, passing, chosen, raised_first}
use Rattle.free_table.specs.ChosenFacts.{NextOf, AllBelow, ChosenOrHigher, raised_in}
use Rattle.free_table.proofs.TableLaws.{first_rises, target_above_lem}
use Rattle.free_table.proofs.ChoosingLaws.{next_at, chosen_none, chosen_cons, chosen_above}

-- The record is at a place of the table and passes the test.
abbrev PlaceOf : (TargetRecord → Bool) → List TargetRecord → TargetRecord → Type 0
PlaceOf ok rs q = (i : ℕ) × (i < length rs) × (ok (get_or rs i no_record) ≡ true) × (q ≡ get_or rs i no_record)

-- With one more object in front, what was among them still is,
elem_after : (x o : Object) (os : List Object) → elem same_object x os ≡ true → elem same_object x (o ∷ os) ≡ true
elem_after x o os e = bool_cases (same_object x o) (λ q. rw q) (λ q. rw q e)

-- and they are below a target that they and it are below.
below_cons : (o : Object) (os : List Object) (target : ℕ) → o.target < target → AllBelow os target
    → AllBelow (o ∷ os) target
below_cons o os target h f zero k = h
below_cons o os target h f (suc j) k = f j (omega arith)

-- If nothing is chosen, no record is raised,
pub raised_in_none : (rs : List TargetRecord) → map (raised_in []) rs ≡ rs
raised_in_none [] = refl
raised_in_none (r ∷ rs) = ap (λ (qs : List TargetRecord). r ∷ qs) (raised_in_none rs)

-- and an object on a lower target than those of the records raises none of them.
raised_in_above : (from : ℕ) (rs : List TargetRecord) → rising from rs ≡ true → (o : Object) (os : List Object)
    → o.target < from → map (raised_in (o ∷ os)) rs ≡ map (raised_in os) rs
raised_in_above from [] e o os h = refl
raised_in_above from (r ∷ rs) e o os h =
    let p = first_rises from r rs e in
    bool_cases (same_object (next_object r) o)
    (λ q. let t = ap (λ (v : Object). v.target) (same_object_lem (next_object r) o q) in absurd (omega arith))
    (λ q. rw q (ap (λ (qs : List TargetRecord). raised_in os r ∷ qs)
    (raised_in_above (r.target + 1) rs p.2 o os (omega arith))))

module _ (ok : TargetRecord → Bool) where
  -- No object on a lower target than those of the records is chosen.
  not_chosen : (from s : ℕ) (rs : List TargetRecord) → rising from rs ≡ true → (o : Object) → o.target < from
      → elem same_object o (chosen ok s rs) ≡ false
  not_chosen from s rs e o h =
      bool_cases (elem same_object o (chosen ok s rs))
      (λ q. absurd (omega (arith, elem_true same_object o (chosen ok s rs) q, chosen_above ok from s rs e o h)))
      (λ q. q)

  -- Each record that passes is in the table.
  place_after : (r q : TargetRecord) (rs : List TargetRecord) → PlaceOf ok rs q → PlaceOf ok (r ∷ rs) q
  place_after r q rs p = (suc p.0, omega (arith, p.1), p.2, p.3)

  passing_place : (rs : List TargetRecord) (j : ℕ) → j < length (passing ok rs)
      → PlaceOf ok rs (get_or (passing ok rs) j no_record)
  passing_place [] j h = absurd (omega arith)
  passing_place (r ∷ rs) zero h = bool_cases (ok r) (λ e. rw e (0, omega arith, e, refl))
      (λ e. rw e (place_after r (get_or (passing ok rs) 0 no_record) rs (passing_place rs 0 (rw e at h))))
  passing_place (r ∷ rs) (suc j) h = bool_cases (ok r)
      (λ e. let k : suc j < suc (length (passing ok rs)) = rw e at h in
      rw e (place_after r (get_or (passing ok rs) j no_record) rs (passing_place rs j (omega arith))))
      (λ e. rw e (place_after r (get_or (passing ok rs) (suc j) no_record) rs (passing_place rs (suc j) (rw e at h))))

  -- Each object chosen is the next one of a record of the table that passes.
  pub chosen_usable : (s : ℕ) (rs : List TargetRecord) (j : ℕ) → j < length (chosen ok s rs)
      → NextOf ok rs (get_or (chosen ok s rs) j no_object)
  unfolding chosen
  chosen_usable s rs j h =
      let qs = take s (passing ok rs) in
      let n = length-map qs next_object in
      let k = length-take s (passing ok rs) in
      let p = passing_place rs j (omega arith) in
      (p.0, p.1, p.2, next_at qs j ∙ ap next_object (get_or-take s (passing ok rs) j no_record (omega arith) ∙ p.3))

  -- "the S usable ones with the lowest targets": a record that passes is chosen, or s are chosen, all on lower targets.
  pub chosen_lowest : (from s : ℕ) (rs : List TargetRecord) → rising from rs ≡ true → (i : ℕ) → i < length rs
      → ok (get_or rs i no_record) ≡ true → ChosenOrHigher s (chosen ok s rs) (get_or rs i no_record)
  chosen_lowest from s [] e i h u = absurd (omega arith)
  chosen_lowest from zero (r ∷ rs) e i h u = inr (rw (chosen_none ok (r ∷ rs)) (refl, λ j k. absurd (omega arith)))
  chosen_lowest from (suc s) (r ∷ rs) e zero h u =
      inl (rw (chosen_cons ok s r rs, u, same_object_refl (next_object r)))
  chosen_lowest from (suc s) (r ∷ rs) e (suc i) h u =
      let p = first_rises from r rs e in
      let k = target_above_lem (r.target + 1) rs p.2 i (omega arith) in
      rw (chosen_cons ok s r rs)
      (bool_cases (ok r)
      (λ q. rw q (⊎_elim (λ w. inl (elem_after (next_object (get_or rs i no_record)) (next_object r) (chosen ok s rs)
      w))
      (λ w. inr (
        ap suc w.0,
        below_cons (next_object r) (chosen ok s rs) (get_or rs i no_record).target (omega arith)
            w.1,
      ))
      (chosen_lowest (r.target + 1) s rs p.2 i (omega arith) u)))
      (λ q. rw q (chosen_lowest (r.target + 1) (suc s) rs p.2 i (omega arith) u)))

  -- "Nothing else in the table changes": of a rising table, the records whose next objects were chosen are raised, and
  -- the others stay.
  pub raised_chosen : (from s : ℕ) (rs : List TargetRecord) → rising from rs ≡ true
      → raised_first ok s rs ≡ map (raised_in (chosen ok s rs)) rs
  raised_chosen from s [] e = refl
  raised_chosen from zero (r ∷ rs) e =
      sym (ap (λ (os : List Object). map (raised_in os) (r ∷ rs)) (chosen_none ok (r ∷ rs)) ∙ raised_in_none (r ∷ rs))
  raised_chosen from (suc s) (r ∷ rs) e =
      let p = first_rises from r rs e in
      let Raised = λ (os : List Object). raised_first ok (suc s) (r ∷ rs) ≡ map (raised_in os) (r ∷ rs) in
      bool_cases (ok r)
      (λ q. let w : chosen ok (suc s) (r ∷ rs) ≡ next_object r ∷ chosen ok s rs = rw (chosen_cons ok s r rs, q) in
      subst Raised (sym w)
      (rw (q, same_object_refl (next_object r))
      (ap (λ (qs : List TargetRecord). raised r ∷ qs)
      (raised_chosen (r.target + 1) s rs p.2
      ∙ sym (raised_in_above (r.target + 1) rs p.2 (next_object r) (chosen ok s rs) (omega arith))))))
      (λ q. let w : chosen ok (suc s) (r ∷ rs) ≡ chosen ok (suc s) rs = rw (chosen_cons ok s r rs, q) in
      subst Raised (sym w)
      (rw (q, not_chosen (r.target + 1) (suc s) rs p.2 (next_object r) (omega arith))
      (ap (λ (qs : List TargetRecord). r ∷ qs) (raised_chosen (r.target + 1) (suc s) rs p.2))))
