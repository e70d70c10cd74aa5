-- The turns of a reading in place: each takes a page or ends it with a refusal, so 17 are enough.
use Rattle.std.specs.Prelude.{ℕ, zero, suc, ◌+◌, ◌-◌, ◌≤◌, ◌<◌, ◌≡◌, refl, List, Bool, true, false, cond}
use Rattle.std.proofs.Common.{sym, ap, ◌∙◌, arith, ne_eqb}
use Rattle.std.proofs.Math.Bool.{and-false}
use Rattle.placed_run.specs.Placing.{Placed, none_placed, next_refusal, refused_by, with_page, placed_next, goes_on}
use Rattle.placed_run.specs.Placing.{placed_on}
use Rattle.placed_run.specs.Placing.{placed_run}
use Rattle.placed_run.proofs.PlacingLaws.{placed_stays, next_refused, next_taken}

-- Reading on from a reading that has taken some of at most 16 pages.
abbrev pub placed_from : List ℕ → Placed → Placed
placed_from s p = placed_on (17 - p.pages) s p

-- The turns that are left.
abbrev pub turns_left : Placed → ℕ
turns_left p = cond (goes_on p) (17 - p.pages) 0

-- At the start and at the end.
pub turn_start : (s : List ℕ) → placed_run s ≡ placed_from s none_placed
unfolding placed_run
turn_start s = refl

pub turn_end : (s : List ℕ) (p : Placed) → goes_on p ≡ false → placed_from s p ≡ p
turn_end s p e = placed_stays s (17 - p.pages) p e

turns_by : (b : Bool) (n : ℕ) → cond b n 0 ≤ n
turns_by true n = omega arith
turns_by false n = omega arith

module _ (s : List ℕ) (p : Placed) (h : p.pages ≤ 16) (e : goes_on p ≡ true) where
  left : 17 - p.pages ≡ suc (16 - p.pages)
  left = omega arith

  on_next : placed_from s p ≡ placed_on (16 - p.pages) s (placed_next s p)
  on_next = rw (left, e)

  -- A number that is 0 or is not.
  by_number : {P : Type 0} → (next_refusal s p ≡ 0 → P) → ((n : ℕ) → next_refusal s p ≡ suc n → P) → P
  by_number {P} f g = split (next_refusal s p) refl
    where
      split : (n : ℕ) → next_refusal s p ≡ n → P
      split zero z = f z
      split (suc n) z = g n z

  refused_stops : (n : ℕ) → goes_on (refused_by (suc n) p) ≡ false
  refused_stops n = rw (ne_eqb (suc n) 0 (λ x. omega arith)) (and-false p.more)

  -- A turn.
  pub turn_next : placed_from s p ≡ placed_from s (placed_next s p)
  turn_next =
      by_number
      (λ z. let t = next_taken s p z in
      let n : 16 - p.pages ≡ 17 - (p.pages + 1) = omega arith in
      on_next ∙ rw t (ap (λ (k : ℕ). placed_on k s (with_page s p)) n))
      (λ n z. let t = next_refused s p (suc n) z (omega arith) in
      let stops = refused_stops n in
      on_next ∙ rw t (placed_stays s (16 - p.pages) (refused_by (suc n) p) stops
      ∙ sym (placed_stays s (17 - p.pages) (refused_by (suc n) p) stops)))

  -- Fewer turns are left after it.
  pub turn_less : turns_left (placed_next s p) < turns_left p
  turn_less =
      rw e
      (by_number
      (λ z. rw (next_taken s p z) (omega (arith, turns_by (goes_on (with_page s p)) (17 - (p.pages + 1)))))
      (λ n z. rw (next_refused s p (suc n) z (omega arith), refused_stops n) (omega arith)))
