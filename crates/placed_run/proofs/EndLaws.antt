-- What a reading in place has found once it has come to its end, by the number of its end.
use Rattle.std.specs.Prelude.{ℕ, ◌≡◌, List, Ok, Err, true, leb, eqb, length, take}
use Rattle.std.proofs.Common.{sym, ◌∙◌, arith, eqb-true, leb-true}
use Rattle.std.proofs.lemmas.Bool.{eqb-false}
use Rattle.lists.specs.Bools.{bool_cases}
use Rattle.refusals.specs.declared.Refusal.{Refusal}
use Rattle.refusals.specs.Refusals.{number_of}
use Rattle.layout.specs.Distinct.{distinct_hold}
use Rattle.in_place.specs.Places.{components_at}
use Rattle.placed_run.specs.declared.Progress.{Progress}
use Rattle.placed_run.specs.Placing.{placed_run, end_refusal}
use Rattle.placed_run.specs.Progress.{placed_of, InRange}
use Rattle.placed_run.specs.Found.{Finds}
use Rattle.placed_run.proofs.FoundLaws as laws

-- A reading in place that has come to its end, with components that are distinct, and the number of its end.
module _ (s : List ℕ) (p : Progress) (places : List ℕ) (k : InRange s p places) (n : ℕ)
    (e : placed_of n p places ≡ placed_run s) where
  module _ (d : distinct_hold (components_at s (take p.count places)) ≡ true) (m : ℕ)
      (f : m ≡ end_refusal s (placed_of n p places)) where
    -- The reading is refused for another reason,
    pub finds_refused : (r : Refusal) → number_of r ≡ m → Finds s (Err r) places
    finds_refused r q = laws.finds_none s p places k n e r (q ∙ f ∙ sym (laws.same s p places k n e d))

    -- or it is not refused.
    pub finds : m ≡ 0 → Finds s (Ok (record { generation = p.generation; count = p.count })) places
    finds z =
        let done : end_refusal s (placed_of n p places) ≡ 0 = sym f ∙ z in
        bool_cases (eqb n 0)
        (λ a. let none : n ≡ 0 = eqb-true n 0 a in
        bool_cases (leb (length s) p.at)
        (λ b. laws.finds s p places k n e d none (leb-true (length s) p.at b))
        (λ b. let two : 2 ≡ 0 = rw (a, b) at done in absurd (omega arith)))
        (λ a. let none : n ≡ 0 = rw a at done in absurd (omega (arith, eqb-false n 0 a)))
