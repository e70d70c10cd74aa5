-- Growth as the host asks for it: pages back to back and plain numbers in, pages back to back and plain numbers out.
use Rattle.std.specs.Prelude.{ℕ, List, [], ◌∷◌, cond, leb, length}
use Rattle.std.proofs.lemmas.List.Edits.{sets}
use Rattle.layout.specs.declared.Layout.{Layout}
use Rattle.round_trip.specs.Pages.{written_pages, back_to_back}
use Rattle.mapping.specs.Answers.{Answer, gives, refuses}
use Rattle.free_table.specs.declared.TargetRecord.{TargetRecord}
use Rattle.growth_rules.specs.Growing.{Effect, Outcome, grow_of}
use Rattle.gateway.specs.Host.{host_layout, reading_first, lent_after}

-- What one or two words that make no whole record are read as: a record whose target is above 65,534, so that the table is bad.
abbrev pub cut_record : TargetRecord
cut_record = record { target = 65535; free = 0; next = 0 }

-- The records of a table that is lent as words, three words a record: its target, its free bytes, its next object number. If
-- the number of words is no multiple of 3, the last record is a cut one.
abbrev pub word_table : List ℕ → List TargetRecord
word_table [] = []
word_table (t ∷ []) = cut_record ∷ []
word_table (t ∷ f ∷ []) = cut_record ∷ []
word_table (t ∷ f ∷ n ∷ ws) = record { target = t; free = f; next = n } ∷ word_table ws

-- The words with the next numbers of records, each in the third word of its record. The other words stay.
abbrev pub with_next_words : List ℕ → List TargetRecord → List ℕ
with_next_words ws [] = ws
with_next_words [] (r ∷ rs) = []
with_next_words (t ∷ []) (r ∷ rs) = t ∷ []
with_next_words (t ∷ f ∷ []) (r ∷ rs) = t ∷ f ∷ []
with_next_words (t ∷ f ∷ n ∷ ws) (r ∷ rs) = t ∷ f ∷ r.next ∷ with_next_words ws rs

-- What growth gives of the layout that is in the pages, with the table that is in the words.
abbrev pub host_grown : List ℕ → ℕ → ℕ → List ℕ → Outcome
host_grown pages offset mark words =
    grow_of (host_layout pages) (record { offset = offset; mark = mark; table = word_table words })

-- The pages of a layout, by the writer's rule, back to back.
abbrev pub pages_of : Layout → List ℕ
pages_of l = back_to_back (written_pages l)

-- 20 if the pages of a layout do not fit into so many bytes, else 0.
abbrev pub room_number : Layout → ℕ → ℕ
room_number l room = cond (leb (length (pages_of l)) room) 0 20

-- The number of a refusal of growth; of an answer the number n that is asked last.
abbrev pub later_number : Answer Effect → ℕ → ℕ
later_number (refuses m) n = m
later_number (gives e) n = n

-- The number that the call returns for `room` bytes: that of the reading's refusal, which comes first; then that of growth, 10 and
-- 15 to 19; then 20; or 0.
unfoldable pub grow_number : List ℕ → ℕ → ℕ → List ℕ → ℕ → ℕ
grow_number pages offset mark words room =
    let o = host_grown pages offset mark words in
    reading_first pages (later_number o.answer (room_number o.layout room))

-- 1 if the answer says that the offset now has a home, else 0.
abbrev pub home_number : Answer Effect → ℕ
home_number (gives e) = cond e.home 1 0
home_number (refuses n) = 0

-- The words of the table afterwards: the next numbers that growth gives are stored in their third words.
unfoldable pub table_after : ℕ → List ℕ → Outcome → List ℕ
table_after n words o = lent_after n (with_next_words words o.table) words

-- The bytes lent for the new pages afterwards: the pages of the layout that growth gives are in the first of them.
unfoldable pub grown_after : ℕ → List ℕ → Outcome → List ℕ
grown_after n bytes o = lent_after n (sets bytes 0 (pages_of o.layout)) bytes

-- The two numbers of the answer afterwards: how many bytes were written, and whether the offset now has a home.
unfoldable pub answer_after : ℕ → List ℕ → Outcome → List ℕ
answer_after n numbers o = lent_after n (sets numbers 0 (length (pages_of o.layout) ∷ home_number o.answer ∷ [])) numbers
