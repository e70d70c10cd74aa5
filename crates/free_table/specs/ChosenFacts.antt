-- What is said of objects that were chosen from a table, and of the table afterwards. `ChosenLaws` has the laws. The
-- test of a record, `ok`, is that its target is usable; in a scan also that it is not left out.
use Rattle.std.specs.Prelude.{ℕ, ◌<◌, ◌≡◌, List, ◌⊎◌, Bool, true, cond, length, get_or}
use Rattle.lists.specs.Counting.{elem}
use Rattle.layout.specs.declared.Object.{Object}
use Rattle.layout.specs.Records.{no_object}
use Rattle.layout.specs.Distinct.{same_object}
use Rattle.free_table.specs.declared.TargetRecord.{TargetRecord}
use Rattle.free_table.specs.Table.{no_record}
use Rattle.free_table.specs.Choosing.{next_object, raised}

-- The object is the next one of a record of the table that passes the test.
abbrev pub NextOf : (TargetRecord → Bool) → List TargetRecord → Object → Type 0
NextOf ok rs o =
    (i : ℕ) × (i < length rs) × (ok (get_or rs i no_record) ≡ true) × (o ≡ next_object (get_or rs i no_record))

-- The targets of the objects are below this one.
abbrev pub AllBelow : List Object → ℕ → Type 0
AllBelow os target = (j : ℕ) → j < length os → (get_or os j no_object).target < target

-- Of s chosen objects, the next one of a record is one, or they are s indeed, and all on lower targets.
abbrev pub ChosenOrHigher : ℕ → List Object → TargetRecord → Type 0
ChosenOrHigher s os r =
    (elem same_object (next_object r) os ≡ true) ⊎ ((length os ≡ s) × AllBelow os r.target)

-- A record, raised if its next object is one of these.
abbrev pub raised_in : List Object → TargetRecord → TargetRecord
raised_in os r = cond (elem same_object (next_object r) os) (raised r) r
