-- The places that a reading in place has found.
use Rattle.std.specs.Prelude.{ℕ, ◌≡◌, refl, Ok, List, length}
use Rattle.in_place.specs.Places.{ValidAt}
use Rattle.placed_run.specs.declared.Found.{Found}
use Rattle.placed_run.specs.Found.{Finds}

-- The components at the first of the 16 places are those of a valid layout.
pub found_places : {pages : List ℕ} {r : Found} {places : List ℕ} → Finds pages (Ok r) places
    → ValidAt pages r.count places × (length places ≡ 16)
found_places f = (f.valid_at refl, f.room)
