-- The records of the free table after a choice, one by one.
use Rattle.std.specs.Prelude.{ℕ, ◌-◌, ◌≤◌, ◌<◌, List, Bool, false, cond, ltb, eqb, length, get_or}
use Rattle.layout.specs.declared.Object.{Object}
use Rattle.layout.specs.Records.{no_object}

-- The numbers of the objects can go up by 1, and the last of them has the highest target.
abbrev pub Raisable : List Object → Type 0
Raisable os =
    ((j : ℕ) → j < length os → (get_or os j no_object).number < 18446744073709551615)
    × ((j : ℕ) → j < length os → (get_or os j no_object).target ≤ (get_or os (length os - 1) no_object).target)

-- The target is above that of the last of the objects. Of no objects none is last.
unfoldable pub past_last : List Object → ℕ → Bool
past_last os target = cond (eqb (length os) 0) false (ltb (get_or os (length os - 1) no_object).target target)

-- How many of so many records are looked at to raise n of them: "Nothing else in the table changes", so none if n is 0.
abbrev pub records_raised : ℕ → ℕ → ℕ
records_raised records n = cond (eqb n 0) 0 records
