-- The laws of refusal numbers: what the first number means, and the numbers that the calls' definitions give.
use Rattle.std.specs.Prelude.{ℕ, zero, suc, ◌^◌, ◌<◌, ◌≡◌, refl, List, [], ◌∷◌, ◌↔◌, ◌⊎◌, Bool, true, false, not, cond}
use Rattle.std.specs.Prelude.{◌&&◌, ◌||◌, leb, ltb, eqb, length}
use Rattle.std.proofs.Common.{sym, ◌∙◌, inl, inr, ⊎_elim, arith, leb-true, leb-false, lt-ltb, le-ltb}
use Rattle.std.proofs.lemmas.Bool.{eqb-false, not-true}
use Rattle.lists.specs.Bools.{bool_cases, both_true, both_false}
use Rattle.layout.specs.declared.Object.{Object}
use Rattle.layout.specs.declared.Component.{Component}
use Rattle.layout.specs.declared.Layout.{Layout}
use Rattle.layout.specs.Records.{records_in, view}
use Rattle.layout.specs.Rules.{valid}
use Rattle.layout.specs.Holder.{holds, last_end}
use Rattle.collector.specs.declared.Collector.{Collector}
use Rattle.collector.specs.Collector.{collector_ok}
use Rattle.collector.specs.Giving.{layout_out}
use Rattle.mapping.specs.declared.Piece.{Piece}
use Rattle.mapping.specs.Answers.{answer, answer_number}
use Rattle.mapping.specs.Back.{file_byte_in, owner, hidden_refusal}
use Rattle.mapping.specs.Cutting.{room_after}
use Rattle.paging.specs.Paging.{out_buffer}
use Rattle.free_table.specs.Table.{table_ok}
use Rattle.growth_rules.specs.Steps.{Call, Step, stays, lacks, changes}
use Rattle.growth_rules.specs.Growing.{meets, step_of, outcome_of, grow_in, grow_of}
use Rattle.promises.specs.Numbers.{Refusal, ◌when◌, first, has, differ, IsFirst, refusal_at, NoneBefore}
use Rattle.promises.specs.Calls.{hidden, lacks_targets, leaves_many, meets_layout, is_change}

-- The first number is not 0 and is not among the others, which differ.
differ_first : (r : Refusal) (rs : List Refusal) → differ (r ∷ rs) ≡ true
    → (eqb r.number 0 ≡ false) × (has r.number rs ≡ false) × (differ rs ≡ true)
differ_first r rs e =
    let some = not (eqb r.number 0) in
    let p = both_true (some && not (has r.number rs)) (differ rs) e in
    let q = both_true some (not (has r.number rs)) p.0 in
    (not-true (eqb r.number 0) q.0, not-true (has r.number rs) q.1, p.1)

-- A number that a list does not have is not that of a refusal of it.
not_listed : (n : ℕ) (rs : List Refusal) → has n rs ≡ false → (i : ℕ) → i < length rs → n ≡ (refusal_at rs i).number → ⊥
not_listed n [] e i h q = omega arith
not_listed n (r ∷ rs) e zero h q = eqb-false n r.number (both_false (eqb n r.number) (has n rs) e).0 q
not_listed n (r ∷ rs) e (suc i) h q =
    not_listed n rs (both_false (eqb n r.number) (has n rs) e).1 i (omega arith) q

-- What is given is 0, or the number of a refusal of the list.
first_listed : (rs : List Refusal) → (first rs ≡ 0) ⊎ ((i : ℕ) × (i < length rs)
    × (first rs ≡ (refusal_at rs i).number))
first_listed [] = inl refl
first_listed (r ∷ rs) =
    bool_cases r.applies (λ e. inr (0, omega arith, rw e))
    (λ e. ⊎_elim (λ z. inl (rw e z)) (λ p. inr (suc p.0, omega (arith, p.1), rw e p.2)) (first_listed rs))

-- If the number of a refusal is given, it applies, and none before it does,
given_applies : (rs : List Refusal) → differ rs ≡ true → (i : ℕ) → i < length rs → first rs ≡ (refusal_at rs i).number
    → ((refusal_at rs i).applies ≡ true) × NoneBefore rs i
given_applies [] e i h q = absurd (omega arith)
given_applies (r ∷ rs) e zero h q =
    let p = differ_first r rs e in
    bool_cases r.applies (λ t. (t, λ j k. absurd (omega arith)))
    (λ t. let same : first rs ≡ r.number = rw t at q in
    absurd (⊎_elim (λ z. eqb-false r.number 0 p.0 (sym same ∙ z))
    (λ z. not_listed r.number rs p.1 z.0 z.1 (sym same ∙ z.2)) (first_listed rs)))
given_applies (r ∷ rs) e (suc i) h q =
    let p = differ_first r rs e in
    bool_cases r.applies
    (λ t. let same : r.number ≡ (refusal_at rs i).number = rw t at q in
    absurd (not_listed r.number rs p.1 i (omega arith) same))
    (λ t. let g = given_applies rs p.2 i (omega arith) (rw t at q) in (g.0, none t g.1))
  where
    none : r.applies ≡ false → NoneBefore rs i → NoneBefore (r ∷ rs) (suc i)
    none t g zero k = t
    none t g (suc j) k = g j (omega arith)

-- and the number of a refusal that applies, while none before it does, is given.
applies_given : (rs : List Refusal) (i : ℕ) → i < length rs → (refusal_at rs i).applies ≡ true → NoneBefore rs i
    → first rs ≡ (refusal_at rs i).number
applies_given [] i h a none = absurd (omega arith)
applies_given (r ∷ rs) zero h a none = rw a
applies_given (r ∷ rs) (suc i) h a none =
    let before : r.applies ≡ false = none 0 (omega arith) in
    rw before (applies_given rs i (omega arith) a (λ j k. none (suc j) (omega arith)))

-- 0 is given if no refusal applies,
none_zero : (rs : List Refusal) → ((i : ℕ) → i < length rs → (refusal_at rs i).applies ≡ false) → first rs ≡ 0
none_zero [] f = refl
none_zero (r ∷ rs) f = rw (f 0 (omega arith)) (none_zero rs (λ i h. f (suc i) (omega arith)))

-- and only there.
zero_none : (rs : List Refusal) → differ rs ≡ true → first rs ≡ 0 → (i : ℕ) → i < length rs
    → (refusal_at rs i).applies ≡ false
zero_none [] e z i h = absurd (omega arith)
zero_none (r ∷ rs) e z i h =
    let p = differ_first r rs e in
    bool_cases r.applies
    (λ t. let same : r.number ≡ 0 = rw t at z in absurd (eqb-false r.number 0 p.0 same))
    (λ t. at_place i h t (zero_none rs p.2 (rw t at z)))
  where
    at_place : (i : ℕ) → i < length (r ∷ rs) → r.applies ≡ false
        → ((j : ℕ) → j < length rs → (refusal_at rs j).applies ≡ false) → (refusal_at (r ∷ rs) i).applies ≡ false
    at_place zero h t g = t
    at_place (suc j) h t g = g j (omega arith)

module _ (rs : List Refusal) (n : ℕ) (g : IsFirst n rs) where
  -- Each number is given exactly if its condition holds and that of none before it does.
  pub given_exactly : (i : ℕ) → i < length rs
      → (n ≡ (refusal_at rs i).number) ↔ (((refusal_at rs i).applies ≡ true) × NoneBefore rs i)
  given_exactly i h = (
    λ e. given_applies rs g.0 i h (sym g.1 ∙ e),
    λ p. g.1 ∙ applies_given rs i h p.0 p.1,
  )

  -- 0 is given exactly if no condition holds.
  pub zero_exactly : (n ≡ 0) ↔ ((i : ℕ) → i < length rs → (refusal_at rs i).applies ≡ false)
  zero_exactly = (λ e. zero_none rs g.0 (sym g.1 ∙ e), λ f. g.1 ∙ none_zero rs f)

  -- No other number is given.
  pub given_listed : (n ≡ 0) ⊎ ((i : ℕ) × (i < length rs) × (n ≡ (refusal_at rs i).number))
  given_listed = ⊎_elim (λ z. inl (g.1 ∙ z)) (λ p. inr (p.0, p.1, g.1 ∙ p.2)) (first_listed rs)

-- A chain of tests gives the first number, test by test: n if the test refuses, else m, which the rest of the chain
-- gives. The test refuses if it passes,
pub refused_if : (t : Bool) (n : ℕ) {x m : ℕ} → x ≡ m → cond t n x ≡ cond t n m
refused_if true n e = refl
refused_if false n e = e

-- or if it fails,
pub refused_unless : (t : Bool) (n : ℕ) {x m : ℕ} → x ≡ m → cond t x n ≡ cond (not t) n m
refused_unless true n e = e
refused_unless false n e = refl

-- or if one of two fails,
pub refused_unless_both : (s t : Bool) (n : ℕ) {x m : ℕ} → x ≡ m → cond (s && t) x n ≡ cond (not s || not t) n m
refused_unless_both true true n e = e
refused_unless_both true false n e = refl
refused_unless_both false t n e = refl

-- or if a is above b.
pub refused_above : (a b n : ℕ) {x m : ℕ} → x ≡ m → cond (leb a b) x n ≡ cond (ltb b a) n m
refused_above a b n e =
    bool_cases (leb a b) (λ q. rw (q, le-ltb b a (leb-true a b q)) e) (λ q. rw (q, lt-ltb b a (leb-false a b q)))

-- The number of the layout out of a collector.
pub layout_out_number : (c : Collector) → (layout_out c).refusal ≡ cond (collector_ok c && c.layout.complete) 0 1
unfolding layout_out
layout_out_number c = bool_cases (collector_ok c && c.layout.complete) (λ e. rw e) (λ e. rw e)

-- The number of the refusal of a byte that was found back.
pub hidden_number : (o : Object) (p : ℕ) (cs : List Component)
    → hidden_refusal (owner o cs).begin (owner o cs).end (file_byte_in (owner o cs) o p) ≡ cond (hidden o p cs) 14 0
unfolding hidden_refusal hidden
hidden_number o p cs =
    let b = file_byte_in (owner o cs) o p in refused_unless_both (holds (owner o cs) b) (ltb b (2 ^ 64)) 14 refl

-- The answer under the number of a refusal, or under 0, has that number.
pub answer_under : {A : Type 0} (n : ℕ) (a : A) → answer_number (answer n a) ≡ n
answer_under zero a = refl
answer_under (suc n) a = refl

-- The number of what a call of growth gives, up to its step.
pub growth_number : (l : Layout) (k : Call)
    → answer_number (grow_of l k).answer
    ≡ cond (valid l)
    (cond (leb (last_end (view l)) k.offset) 10
    (cond (table_ok k.table) (answer_number (outcome_of l k (step_of l k)).answer) 15)) 1
unfolding grow_of grow_in
growth_number l k =
    bool_cases (valid l)
    (λ v. bool_cases (leb (last_end (view l)) k.offset) (λ e. rw (v, e))
    (λ e. bool_cases (table_ok k.table) (λ t. rw (v, e, t)) (λ t. rw (v, e, t))))
    (λ v. rw v)

-- The number that a step of growth gives.
pub step_number : (l : Layout) (k : Call) (s : Step)
    → answer_number (outcome_of l k s).answer
    ≡ first (
    16 when lacks_targets s
    ∷ 17 when leaves_many s
    ∷ 18 when meets_layout (records_in (view l)) s
    ∷ 19 when (is_change s && eqb l.generation 4294967295)
    ∷ [])
unfolding outcome_of lacks_targets leaves_many meets_layout is_change
step_number l k stays = refl
step_number l k lacks = refl
step_number l k (changes cs os) =
    bool_cases (ltb 16 (length cs)) (λ e. rw e)
    (λ e. bool_cases (meets os (records_in (view l))) (λ q. rw (e, q))
    (λ q. bool_cases (eqb l.generation 4294967295) (λ r. rw (e, q, r)) (λ r. rw (e, q, r))))

-- Under the number of a refusal the buffer of a page stays as it was,
pub buffer_kept : (n : ℕ) (page buffer : List ℕ) → 0 < n → out_buffer n page buffer ≡ buffer
unfolding out_buffer
buffer_kept zero page buffer h = absurd (omega arith)
buffer_kept (suc n) page buffer h = refl

-- and so do the numbers lent for pieces.
pub room_kept : (n : ℕ) (ps : List Piece) (room : List ℕ) → 0 < n → room_after n ps room ≡ room
unfolding room_after
room_kept zero ps room h = absurd (omega arith)
room_kept (suc n) ps room h = refl
