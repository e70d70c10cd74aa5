-- Demand 3: over every list of calls of growth from a valid layout, homes stay, no two bytes ever share one, and the
-- same bytes stay covered. "It is a single claim about the whole list and not one for each call."
use Rattle.std.specs.Prelude.{ℕ, ◌≤◌, ◌<◌, ◌≡◌, List, true, leb, length, get_or}
use Rattle.std.proofs.Math.Option.{some}
use Rattle.std.proofs.Common.{arith, leb-true, leb-false}
use Rattle.lists.specs.Bools.{bool_cases}
use Rattle.layout.specs.declared.Layout.{Layout}
use Rattle.layout.specs.Records.{view}
use Rattle.layout.specs.Rules.{valid}
use Rattle.layout.specs.FactLaws.{valid_facts}
use Rattle.mapping.specs.Homes.{Home, home_in, home_of}
use Rattle.mapping.proofs.BackLaws.{home_once}
use Rattle.growth_rules.specs.Steps.{Call}
use Rattle.growth_rules.specs.Moments.{moments, Demand3}
use Rattle.growth_rules.proofs.MomentLaws.{home_no_extent, moment_valid, reading_kept, moment_covers}

module _ (l : Layout) (ks : List Call) (v : valid l ≡ true) where
  -- Homes stay, as every reading does that does not look at the extent.
  homes_stay : (i j : ℕ) → i ≤ j → j < length (moments l ks) → (b : ℕ) (h : Home)
      → home_of b (view (get_or (moments l ks) i l)) ≡ some h → home_of b (view (get_or (moments l ks) j l)) ≡ some h
  unfolding home_of
  homes_stay i j le k b h e = reading_kept l ks v home_in home_no_extent i j le k b h e

  -- Two bytes with the same home at one moment are the same.
  one_byte : (i : ℕ) → i < length (moments l ks) → (b b' : ℕ) (h : Home)
      → home_of b (view (get_or (moments l ks) i l)) ≡ some h → home_of b' (view (get_or (moments l ks) i l)) ≡ some h
      → b ≡ b'
  one_byte i k b b' h e e' = home_once (valid_facts (get_or (moments l ks) i l) (moment_valid l ks v i k)).keeps b b' h
      e e'

-- Demand 3: over every list of calls, from a valid layout.
pub demand3 : (l : Layout) (ks : List Call) → valid l ≡ true → Demand3 l (moments l ks)
demand3 l ks v = record {
  stay = homes_stay l ks v;
  apart = λ i j p q b b' differ h h' e e' same.
      bool_cases (leb i j)
      (λ t. let later = homes_stay l ks v i j (leb-true i j t) q b h e in
      differ (one_byte l ks v j q b b' h' (rw same at later) e'))
      (λ t. let later = homes_stay l ks v j i (omega (arith, leb-false i j t)) p b' h' e' in
      differ (one_byte l ks v i p b b' h e (rw (← same) at later)));
  cover = moment_covers l ks v;
}
