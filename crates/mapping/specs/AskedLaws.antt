-- The tests of 10 and 11 say of a request what document 01 says of "a byte asked for": the bytes asked for are those
-- from its offset up to its end, the end not among them.
use Rattle.std.specs.Prelude.{ℕ, ◌+◌, ◌-◌, ◌≤◌, ◌<◌, ◌≡◌, List, [], ◌∷◌, true, not, ◌&&◌, ◌↔◌, ltb, leb}
use Rattle.std.proofs.Math.Bool.{or-true}
use Rattle.std.proofs.lemmas.Bool.{false≢true}
use Rattle.std.proofs.Common.{arith, ltb-true, lt-ltb, leb-true, le-leb}
use Rattle.lists.specs.Bools.{bool_cases, both_true, true_both}
use Rattle.lists.specs.Tests.{any_of}
use Rattle.layout.specs.declared.Component.{Component}
use Rattle.layout.specs.Holder.{holds}
use Rattle.mapping.specs.Lookup.{not_init_at}
use Rattle.mapping.specs.Spans.{span_of, spans_of}
use Rattle.mapping.specs.Cutting.{part_begin, part_end, touches, not_init_asked}

-- 10: some byte of the request lies at or past `end`.
pub past_asked : (end a m : ℕ)
    → ((ltb 0 m && ltb end (a + m)) ≡ true) ↔ ((q : ℕ) × (a ≤ q) × (q < a + m) × (end ≤ q))
past_asked end a m = (
  λ e.
      let t = both_true (ltb 0 m) (ltb end (a + m)) e in
      let h = ltb-true 0 m t.0 in
      let k = ltb-true end (a + m) t.1 in
      (a + m - 1, omega arith, omega arith, omega arith),
  λ p.
      let q = p.0 in
      let h : a ≤ q = p.1 in
      let k : q < a + m = p.2 in
      let w : end ≤ q = p.3 in
      true_both (lt-ltb 0 m (omega arith)) (lt-ltb end (a + m) (omega arith)),
)

module _ (a b : ℕ) where
  -- A component that the request touches holds a byte asked for,
  touched_byte : (c : Component) → touches a b (span_of c) ≡ true → (q : ℕ) × (a ≤ q) × (q < b) × (holds c q ≡ true)
  touched_byte c e =
      let q = part_begin a (span_of c) in
      let l = ltb-true q (part_end b (span_of c)) e in (
        q,
        omega arith,
        omega arith,
        true_both (le-leb c.begin q (omega arith)) (lt-ltb q c.end (omega arith)),
      )

  -- and one that holds a byte asked for is touched.
  byte_touched : (c : Component) (q : ℕ) → a ≤ q → q < b → holds c q ≡ true → touches a b (span_of c) ≡ true
  byte_touched c q h k e =
      let t = both_true (leb c.begin q) (ltb q c.end) e in
      let x = leb-true c.begin q t.0 in
      let y = ltb-true q c.end t.1 in
      lt-ltb (part_begin a (span_of c)) (part_end b (span_of c)) (omega arith)

  not_init_byte : (cs : List Component) → any_of (not_init_asked a b) (spans_of cs) ≡ true
      → (q : ℕ) × (a ≤ q) × (q < b) × (any_of (not_init_at q) cs ≡ true)
  not_init_byte [] e = absurd (false≢true e)
  not_init_byte (c ∷ cs) e =
      bool_cases (not_init_asked a b (span_of c))
      (λ t. let u = both_true (not c.init) (touches a b (span_of c)) t in
      let p = touched_byte c u.1 in
      (p.0, p.1, p.2, rw (true_both u.0 p.3)))
      (λ t. let p = not_init_byte cs (rw t at e) in (p.0, p.1, p.2, rw (p.3, or-true)))

  byte_not_init : (cs : List Component) (q : ℕ) → a ≤ q → q < b → any_of (not_init_at q) cs ≡ true
      → any_of (not_init_asked a b) (spans_of cs) ≡ true
  byte_not_init [] q h k e = absurd (false≢true e)
  byte_not_init (c ∷ cs) q h k e =
      bool_cases (not_init_at q c)
      (λ t. let u = both_true (not c.init) (holds c q) t in
      rw (true_both u.0 (byte_touched c q h k u.1)))
      (λ t. rw (byte_not_init cs q h k (rw t at e), or-true))

  -- 11: some byte of the request lies in a component that is not init.
  pub not_init_asked_lem : (cs : List Component)
      → (any_of (not_init_asked a b) (spans_of cs) ≡ true)
      ↔ ((q : ℕ) × (a ≤ q) × (q < b) × (any_of (not_init_at q) cs ≡ true))
  not_init_asked_lem cs = (not_init_byte cs, λ p. byte_not_init cs p.0 p.1 p.2 p.3)
