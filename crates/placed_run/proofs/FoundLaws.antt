-- What a reading in place has found once it has come to its end.
use Prim.Native.Nat.{ℕ, zero, suc}
use Rattle.std.specs.Prelude.{◌<◌, ◌≤◌, ◌≡◌, refl, List, Ok, Err, true, false, cond, eqb, length, take}
use Rattle.std.proofs.Math.Path.{sym, ap}
use Rattle.std.proofs.Common.{◌∙◌, arith, length-take-le}
use borrow.Author.Tests.{eq-eqb, ne_eqb, le-leb, lt-leb}
use Rattle.refusals.specs.declared.Refusal.{Refusal}
use Rattle.refusals.specs.declared.Refusal.TheVariants.{AfterLastPage, Distinctness}
use Rattle.refusals.specs.Refusals.{number_of, number_pos}
use Rattle.std.proofs.lemmas.List.{length-map}
use Rattle.layout.specs.declared.Component.{Component}
use Rattle.layout.specs.declared.Layout.{Layout}
use Rattle.layout.specs.Records.{view, packed}
use Rattle.layout.specs.RecordLaws.{view_pack}
use Rattle.layout.specs.Distinct.{distinct_hold}
use Rattle.layout.specs.FactLaws.{valid_facts, facts_keep}
use Rattle.page.specs.Content.{component_at}
use Rattle.collector.specs.Runs.{read_run, host_cut}
use Rattle.collector.proofs.ValidRuns.{run_valid}
use Rattle.in_place.specs.Places.{components_at, ValidAt}
use Rattle.placed_run.specs.declared.Progress.{Progress}
use Rattle.placed_run.specs.Placing.{placed_run, end_refusal, placed_refusal}
use Rattle.placed_run.specs.Progress.{placed_of, InRange}
use Rattle.placed_run.proofs.PlacingLaws.{run_alike}
use Rattle.placed_run.specs.Found.{Findings, none_found, found_by, found_of, Finds}

-- Under a refusal nothing is found.
by_refusal : (n : ℕ) (l : Layout) → (n ≡ 0 → ⊥) → found_by n l ≡ none_found n
unfolding found_by
by_refusal zero l h = absurd (h refl)
by_refusal (suc n) l h = refl

-- A reading in place that has come to its end.
module _ (s : List ℕ) (p : Progress) (places : List ℕ) (k : InRange s p places) (n : ℕ)
    (e : placed_of n p places ≡ placed_run s) where
  abbrev cs : List Component
  cs = components_at s (take p.count places)

  -- The number of the reading into a layout.
  number_is : (read_run host_cut s).refusal ≡ cond (distinct_hold cs) (end_refusal s (placed_of n p places)) 8
  unfolding placed_refusal
  number_is = (run_alike s).refusal ∙ rw (← e)

  layout_is : (read_run host_cut s).refusal ≡ 0 → (read_run host_cut s).layout ≡ packed p.generation cs
  layout_is z = (run_alike s).layout z ∙ rw (← e)

  cs_length : length cs ≡ p.count
  cs_length = length-map (take p.count places) (component_at s)
      ∙ length-take-le p.count places (omega (arith, k.few, k.room))

  valid_is : (read_run host_cut s).refusal ≡ 0 → ValidAt s p.count places
  valid_is z =
      let l = packed p.generation cs in
      let v = valid_facts l (rw (layout_is z) at (run_valid host_cut s z)) in
      let w : view l ≡ cs = view_pack p.generation cs (omega (arith, cs_length, k.few)) in
      (omega (arith, v.some, cs_length), k.few, k.within, facts_keep false cs (rw w at v.keeps))

  -- The reading is refused.
  pub finds_none : (e : Refusal) → number_of e ≡ (read_run host_cut s).refusal → Finds s (Err e) places
  unfolding found_of
  finds_none e q =
      let l = (read_run host_cut s).layout in
      let h : number_of e ≡ 0 → ⊥ = λ z. omega (arith, number_pos e) in
      record {
        answer = sym (by_refusal (number_of e) l h) ∙ ap (λ (m : ℕ). found_by m l) q;
        layout = λ z. absurd (h z);
        valid_at = λ z. absurd (h z);
        room = k.room;
      }

  -- Components are not distinct.
  pub finds_repeat : distinct_hold cs ≡ false → Finds s (Err Distinctness) places
  finds_repeat d = finds_none Distinctness (sym (number_is ∙ rw d))

  -- They are.
  module _ (d : distinct_hold cs ≡ true) where
    pub same : (read_run host_cut s).refusal ≡ end_refusal s (placed_of n p places)
    same = number_is ∙ rw d

    -- The reading is refused for another reason: a page was refused,
    pub finds_refused : (e : Refusal) → number_of e ≡ n → Finds s (Err e) places
    finds_refused f q =
        let z : eqb n 0 ≡ false = ne_eqb n 0 (λ z. omega (arith, number_pos f)) in
        finds_none f (q ∙ sym (same ∙ rw z))

    -- or bytes are after the last page;
    pub finds_more : n ≡ 0 → p.at < length s → Finds s (Err AfterLastPage) places
    finds_more z h = finds_none AfterLastPage (sym (same ∙ rw (eq-eqb n 0 z, lt-leb (length s) p.at h)))

    -- or it is not refused.
    pub finds : n ≡ 0 → length s ≤ p.at → Finds s (Ok (record { generation = p.generation; count = p.count })) places
    unfolding found_of found_by
    finds z h =
        let done : (read_run host_cut s).refusal ≡ 0 = same ∙ rw (eq-eqb n 0 z, le-leb (length s) p.at h) in
        let give : ℕ → ℕ → Findings = λ g m. record { refusal = 0; generation = g; count = m } in
        record {
          answer =
              sym (ap (λ (m : ℕ). found_by m (read_run host_cut s).layout) done
              ∙ ap (λ (l : Layout). give l.generation l.count) (layout_is done)
              ∙ ap (give p.generation) cs_length);
          layout = λ e. layout_is done;
          valid_at = λ e. valid_is done;
          room = k.room;
        }
