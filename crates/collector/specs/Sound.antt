-- What the rules of a collector say, as facts to reason with, and that a page that is taken keeps them.
use Rattle.std.specs.Prelude.{ℕ, zero, suc, ◌+◌, ◌≤◌, ◌≡◌, refl, List, [], ◌∷◌, ◌++◌, true, false, not, ◌&&◌, eqb, leb, length, take, drop}
use Rattle.std.proofs.Common.{sym, ap, ◌∙◌, arith, length-append, take_at, length-take-le, eqb-true, eq-eqb, ne_eqb, leb-true, le-leb}
use Rattle.std.specs.Bool.{beq}
use Rattle.std.proofs.lemmas.List.Edits.{sets-eq}
use Rattle.std.proofs.lemmas.Bool.{not-true}
use Rattle.lists.specs.Bools.{bool_cases, clash, true_both, beq_true}
use Rattle.lists.specs.Tests.{conjunction_at}
use Rattle.layout.specs.declared.Component.{Component}
use Rattle.layout.specs.declared.Layout.{Layout}
use Rattle.layout.specs.Records.{view}
use Rattle.layout.specs.Rules.{rule_broken}
use Rattle.layout.specs.Known.{RulesKnown}
use Rattle.page.specs.declared.Head.{Head}
use Rattle.collector.specs.declared.Collector.{Collector}
use Rattle.collector.specs.Collector.{gathered, counts_agree, collector_ok}
use Rattle.collector.specs.Taking.{is_next, joined, added, content_refusal}

-- Refusal 1 does not apply to the collector.
pub record Sound (c : Collector) : Type 0 where
  pub few : c.layout.count ≤ 16
  pub none : c.pages ≡ 0 → c.layout.count ≡ 0
  pub unfinished : c.pages ≡ 0 → c.layout.complete ≡ false
  pub within : c.pages ≤ c.layout.count
  pub whole : length (gathered c) ≡ c.layout.count
  pub kept : rule_broken (not c.layout.complete) (gathered c) ≡ 0

-- The tests of a collector give the facts.
pub sound_facts : (c : Collector) → collector_ok c ≡ true → Sound c
unfolding collector_ok counts_agree
sound_facts c e =
    let n = c.layout.count in
    let same = beq (eqb c.pages 0) (eqb n 0) in
    let done = c.layout.complete && eqb c.pages 0 in
    let shut = not done in
    let agree = counts_agree c.pages c.layout.complete n in
    let whole = eqb (length (gathered c)) n in
    let kept = eqb (rule_broken (not c.layout.complete) (gathered c)) 0 in
    let p = conjunction_at (leb n 16) (agree ∷ whole ∷ kept ∷ []) e in
    let q = conjunction_at same (shut ∷ leb c.pages n ∷ []) (p 1) in
    record {
      few = leb-true n 16 (p 0);
      none = λ z. eqb-true n 0 (sym (beq_true (eqb c.pages 0) (eqb n 0) (q 0)) ∙ eq-eqb c.pages 0 z);
      unfinished =
          λ z. bool_cases c.layout.complete
          (λ y. clash {b = done} (true_both y (eq-eqb c.pages 0 z)) (not-true done (q 1)))
          (λ y. y);
      within = leb-true c.pages n (q 2);
      whole = eqb-true (length (gathered c)) n (p 2);
      kept = eqb-true (rule_broken (not c.layout.complete) (gathered c)) 0 (p 3);
    }

-- If each of two numbers is 0 when the other is, the two tests for 0 are the same.
zero_alike : (a b : ℕ) → (a ≡ 0 → b ≡ 0) → a ≤ b → beq (eqb a 0) (eqb b 0) ≡ true
zero_alike zero b f h = rw (eq-eqb b 0 (f refl))
zero_alike (suc a) (suc b) f h = rw (ne_eqb (suc a) 0 (λ e. omega arith), ne_eqb (suc b) 0 (λ e. omega arith))
zero_alike (suc a) zero f h = absurd (omega arith)

-- The facts give the tests back.
pub facts_sound : (c : Collector) → Sound c → collector_ok c ≡ true
unfolding collector_ok counts_agree
facts_sound c s =
    let n = c.layout.count in
    let shut : not (c.layout.complete && eqb c.pages 0) ≡ true =
    bool_cases (eqb c.pages 0)
    (λ z. rw (s.unfinished (eqb-true c.pages 0 z)))
    (λ z. bool_cases c.layout.complete (λ y. rw (y, z)) (λ y. rw y)) in
    let same = zero_alike c.pages n s.none s.within in
    let whole = eq-eqb (length (gathered c)) n s.whole in
    rw (le-leb n 16 s.few, same, shut, le-leb c.pages n s.within, whole, s.kept)

-- Components after those of a layout, if its array has room for them.
pub view_joined : (head : Head) (l : Layout) (cs : List Component) → l.count + length cs ≤ length l.components
    → view (joined head l cs) ≡ view l ++ cs
view_joined head l cs h =
    let n = l.count in
    let t = take n l.components in
    let len : length (t ++ cs) ≡ n + length cs =
    length-append t cs ∙ rw (length-take-le n l.components (omega arith)) in
    ap (take (n + length cs)) (sets-eq cs l.components n h)
    ∙ take_at (t ++ cs) (drop (n + length cs) l.components) (n + length cs) len

-- No refusal by what the page says: 4 to 8 do not apply.
pub content_taken : (c : Collector) (h : Head) (cs : List Component) → content_refusal c h cs ≡ 0
    → (is_next c.pages c.layout.generation h ≡ true)
    × (c.layout.count + length cs ≤ 16)
    × (rule_broken h.more (gathered c ++ cs) ≡ 0)
unfolding content_refusal
content_taken c h cs e =
    let room = leb (c.layout.count + length cs) 16 in
    bool_cases (is_next c.pages c.layout.generation h)
    (λ p. bool_cases room
    (λ q. (p, leb-true (c.layout.count + length cs) 16 q, rw (p, q) at e))
    (λ q. let x : 5 ≡ 0 = rw (p, q) at e in absurd (omega arith)))
    (λ p. let x : 4 ≡ 0 = rw p at e in absurd (omega arith))

-- The collector with a page that is taken keeps the rules.
pub sound_added : (c : Collector) (h : Head) (cs : List Component) → length c.layout.components ≡ 16 → 1 ≤ length cs
    → Sound c → content_refusal c h cs ≡ 0 → Sound (added c h cs)
sound_added c h cs l some s e =
    let t = content_taken c h cs e in
    let v = view_joined h c.layout cs (omega (arith, t.1, l)) in
    record {
      few = t.1;
      none = λ z. absurd (omega arith);
      unfinished = λ z. absurd (omega arith);
      within = omega (arith, s.within, some);
      whole = rw (v, length-append, s.whole);
      kept = rw (v) (bool_cases h.more (λ m. rw m (rw m at t.2)) (λ m. rw m (rw m at t.2)));
    }

-- If the collector is not complete, the layout with more components after the gathered ones is one whose first
-- components are known to break no rule with pages outstanding.
pub kept_joined : (c : Collector) (head : Head) (cs : List Component) → length c.layout.components ≡ 16 → Sound c
    → c.layout.complete ≡ false → c.layout.count + length cs ≤ 16 → RulesKnown c.layout.count (joined head c.layout cs)
kept_joined c head cs l s e h =
    let v = view_joined head c.layout cs (omega arith) in
    let t : take c.layout.count (view (joined head c.layout cs)) ≡ gathered c =
    ap (take c.layout.count) v ∙ take_at (gathered c) cs c.layout.count s.whole in
    (omega arith, h, rw (t) (rw e at s.kept))
