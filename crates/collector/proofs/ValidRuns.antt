-- A reading that is not refused gives a valid layout.
use Rattle.std.specs.Prelude.{ℕ, zero, suc, ◌≤◌, ◌≡◌, refl, List, [], ◌∷◌, Bool, true, false, cond, eqb, length}
use Rattle.std.proofs.Common.{ap, arith, eqb-true}
use Rattle.std.proofs.lemmas.Bool.{eqb-false}
use Rattle.lists.specs.Bools.{bool_cases, clash}
use Rattle.layout.specs.Records.{view, packed}
use Rattle.layout.specs.RecordLaws.{view_pack}
use Rattle.layout.specs.Rules.{valid}
use Rattle.layout.specs.FactLaws.{keeps_facts, facts_valid}
use Rattle.collector.specs.declared.Collector.{Collector}
use Rattle.collector.specs.Collector.{new_collector, gathered}
use Rattle.collector.specs.Taking.{number_of, open_in}
use Rattle.collector.specs.Runs.{Next, Reading, ended, broken, next, closed, following, read_on, read_run}
use Rattle.collector.proofs.RunLaws.{Held, page_open, taken_held, new_held}

-- The layout of a collector that keeps the rules and is complete is valid.
gathered_valid : (c : Collector) → Held c → c.layout.complete ≡ true → valid (packed c.layout.generation (gathered c))
    ≡ true
gathered_valid c h e =
    let g = c.layout.generation in
    let few : length (gathered c) ≤ 16 = omega (arith, h.sound.whole, h.sound.few) in
    let v : view (packed g (gathered c)) ≡ gathered c = view_pack g (gathered c) few in
    let some : 1 ≤ length (gathered c) =
    bool_cases (eqb c.pages 0)
    (λ z. clash e (h.sound.unfinished (eqb-true c.pages 0 z)))
    (λ z. let w = eqb-false c.pages 0 z in omega (arith, h.sound.whole, h.sound.within)) in
    facts_valid (packed g (gathered c))
    (record {
      complete = refl;
      some = some;
      few = few;
      whole = ap length v;
      keeps = rw v (keeps_facts false (gathered c) (rw e at h.sound.kept));
    })

-- A reading that is not refused gives a valid layout.
abbrev Good : Reading → Type 0
Good r = r.refusal ≡ 0 → valid r.layout ≡ true

-- That holds of a reading whose collector keeps the rules and is complete,
closed_valid : (c : Collector) (s : List ℕ) → Held c → c.layout.complete ≡ true → Good (closed c s)
closed_valid c [] h e z = gathered_valid c h e
closed_valid c (b ∷ rest) h e z = absurd (omega arith)

-- and of one whose collector keeps the rules and wants more, if it holds of reading on.
following_valid : (on : Collector → List ℕ → Reading) → ((d : Collector) (t : List ℕ) → Held d → Good (on d t))
    → (c : Collector) → Held c → (n : Next) → Good (following on c n)
following_valid on f c h ended z = absurd (omega arith)
following_valid on f c h broken z = absurd (omega arith)
following_valid on f c h (next p rest) z =
    let k = number_of (open_in c p).answer in
    let y = rw (page_open c h p) at z in
    rw (page_open c h p)
    (bool_cases (eqb k 0)
    (λ t. rw t (f (open_in c p).collector rest (taken_held c h p (eqb-true k 0 t)) (rw t at y)))
    (λ t. absurd (eqb-false k 0 t (rw t at y))))

-- So, for any way to cut pages from bytes, it holds of reading on from any collector that keeps the rules,
module _ (cut : List ℕ → Next) where
  either_valid : (on : Collector → List ℕ → Reading) → ((d : Collector) (t : List ℕ) → Held d → Good (on d t))
      → (c : Collector) (s : List ℕ) → Held c → (x : Bool) → c.layout.complete ≡ x
      → Good (cond x (closed c s) (following on c (cut s)))
  either_valid on f c s h true e = closed_valid c s h e
  either_valid on f c s h false e = following_valid on f c h (cut s)

  on_valid : (left : ℕ) (c : Collector) (s : List ℕ) → Held c → Good (read_on cut left c s)
  on_valid zero c s h = λ z. absurd (omega arith)
  on_valid (suc left) c s h = either_valid (read_on cut left) (on_valid left) c s h c.layout.complete refl

  -- and of the reading of a run.
  pub run_valid : (s : List ℕ) → (read_run cut s).refusal ≡ 0 → valid (read_run cut s).layout ≡ true
  unfolding read_run
  run_valid s = on_valid 17 new_collector s new_held
