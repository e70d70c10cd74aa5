-- What the numbers of a reading and the array of places say, and what is known of them between two pages.
use Rattle.std.specs.Prelude.{ℕ, ◌≤◌, ◌≡◌, List, true, length, take}
use Rattle.in_place.specs.Places.{Within}
use Rattle.placed_run.specs.declared.Progress.{Progress}
use Rattle.placed_run.specs.Placing.{Placed}

-- The numbers before the first page.
abbrev pub none_taken : Progress
none_taken = record { at = 0; pages = 0; generation = 0; more = true; count = 0 }

-- A reading that was refused by a number, or by none if it is 0. The places of the components are in the first positions of the
-- array, as many as the count.
abbrev pub placed_of : ℕ → Progress → List ℕ → Placed
placed_of n p places =
    record {
      refusal = n;
      at = p.at;
      pages = p.pages;
      generation = p.generation;
      more = p.more;
      places = take p.count places;
    }

-- The next page begins within the bytes or at their end; no more pages than components were taken, and at most 16 components;
-- each of these ends by the end of the bytes.
pub record InRange (s : List ℕ) (p : Progress) (places : List ℕ) : Type 0 where
  pub reached : p.at ≤ length s
  pub pages : p.pages ≤ p.count
  pub few : p.count ≤ 16
  pub room : length places ≡ 16
  pub within : Within s p.count places
