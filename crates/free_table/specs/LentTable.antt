-- A free table that is lent as a list of target records: what of it growth sees, and what comes back to it.
use Rattle.std.specs.Prelude.{ℕ, ◌-◌, List, [], ◌∷◌, length, take, set, replicate}
use Rattle.free_table.specs.declared.TargetRecord.{TargetRecord}
use Rattle.free_table.specs.Table.{Table, no_record, with_records}

-- How many of n records have one of the 65 places of a table.
abbrev pub places_of : ℕ → ℕ
places_of n = n - (n - 65)

-- A table of n records, which are not yet in their places.
unfoldable pub empty_table : ℕ → Table
empty_table n = record { count = n; records = replicate 65 no_record }

-- A table with a record at a place.
unfoldable pub with_record : Table → ℕ → TargetRecord → Table
with_record t i r = record { count = t.count; records = set t.records i r }

-- The table for these records, with the first i of them in their places.
unfoldable pub loaded_first : ℕ → List TargetRecord → Table
loaded_first i rs = with_records (empty_table (places_of (length rs))) (take i rs)

-- The table of these records, or of the first 65 if they are more.
abbrev pub loaded_of : List TargetRecord → Table
loaded_of rs = loaded_first 65 rs

-- A record with another next number.
abbrev pub with_next : TargetRecord → ℕ → TargetRecord
with_next r n = record { target = r.target; free = r.free; next = n }

-- Records with the next numbers of others, place by place. Those for which there is none stay as they are.
abbrev pub with_nexts : List TargetRecord → List TargetRecord → List TargetRecord
with_nexts rs [] = rs
with_nexts [] (s ∷ ss) = []
with_nexts (r ∷ rs) (s ∷ ss) = with_next r s.next ∷ with_nexts rs ss
