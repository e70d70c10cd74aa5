-- The free table: its records, refusal 15, and which targets are low and which usable. What is in quotes is document
-- 01's.
use Rattle.std.specs.Prelude.{ℕ, ◌+◌, List, [], ◌∷◌, Bool, true, not, cond, ◌&&◌, ltb, leb, eqb, length, take}
use Rattle.std.proofs.lemmas.List.Edits.{sets}
use Rattle.lists.specs.Tests.{every, along, any_of}
use Rattle.layout.specs.declared.Object.{Object}
use Rattle.free_table.specs.declared.TargetRecord.{TargetRecord}
use Rattle.free_table.specs.declared.Few.{Few}

-- Up to 16 values as a list: the first places of the array, as many as the count.
abbrev pub listed : {A : Type 0} → Few A → List A
listed x = take x.count x.items

-- What is said to be past a table's end, and is in the unused places of an array of records.
abbrev pub no_record : TargetRecord
no_record = record { target = 0; free = 0; next = 0 }

-- Records in the first places of an array, as many as the count: how at most 65 stand in 65 places.
pub record Table : Type 0 where
  pub count : ℕ
  pub records : List TargetRecord

-- The records of a table: the first places of its array, as many as its count.
abbrev pub table_of : Table → List TargetRecord
table_of t = take t.count t.records

-- A table with other records in its first places. What is after them stays.
abbrev pub with_records : Table → List TargetRecord → Table
with_records t rs = record { count = t.count; records = sets t.records 0 rs }

-- "targets strictly rising and at most 65,534": `from` is the lowest target that may be here.
abbrev pub target_ok : ℕ → TargetRecord → Bool
target_ok from r = leb from r.target && leb r.target 65534

-- The lowest target that may be after a record.
abbrev pub target_above : ℕ → TargetRecord → ℕ
target_above from r = r.target + 1

-- The targets of the records rise strictly from `from` on, and are at most 65,534.
abbrev pub rising : ℕ → List TargetRecord → Bool
rising from rs = every (along target_ok target_above from rs)

-- The table is not bad: "at most 64, targets strictly rising and at most 65,534, else 15".
unfoldable pub table_ok : List TargetRecord → Bool
table_ok rs = leb (length rs) 64 && rising 0 rs

-- "its free bytes are below the mark"
unfoldable pub free_below : ℕ → TargetRecord → Bool
free_below mark r = ltb r.free mark

-- "A target is low if its free bytes are below the mark or it isn't in the table."
abbrev pub is_low : ℕ → List TargetRecord → ℕ → Bool
is_low mark [] target = true
is_low mark (r ∷ rs) target = cond (eqb r.target target) (free_below mark r) (is_low mark rs target)

-- Does one of the object records lie on a low target?
abbrev pub any_low : ℕ → List TargetRecord → List Object → Bool
any_low mark rs os = any_of (λ (o : Object). is_low mark rs o.target) os

-- "It is usable if not low and its next number is below 2^64 - 1."
unfoldable pub usable : ℕ → TargetRecord → Bool
usable mark r = not (free_below mark r) && ltb r.next 18446744073709551615
