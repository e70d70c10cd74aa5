-- The numbers of each public call, in the order in which the call asks them, each with its condition said by itself.
-- What is in quotes is document 01's.
use Rattle.std.specs.Prelude.{ℕ, ◌+◌, ◌-◌, ◌^◌, List, [], ◌∷◌, ◌++◌, Bool, true, false, not, ◌&&◌, ◌||◌, ltb, leb, eqb, length}
use Rattle.lists.specs.Tests.{every, any_of}
use Rattle.lists.specs.Counting.{elem}
use Rattle.layout.specs.declared.Object.{Object}
use Rattle.layout.specs.declared.Component.{Component}
use Rattle.layout.specs.declared.Layout.{Layout}
use Rattle.layout.specs.Records.{neighbours_of, records_in, view}
use Rattle.layout.specs.Fields.{field_tests}
use Rattle.layout.specs.Neighbours.{neighbours_hold}
use Rattle.layout.specs.Distinct.{same_object, distinct_hold}
use Rattle.layout.specs.Rules.{valid}
use Rattle.layout.specs.Holder.{holds, last_end}
use Rattle.page.specs.Form.{page_form}
use Rattle.page.specs.Content.{head_of, components_of}
use Rattle.collector.specs.declared.Collector.{Collector}
use Rattle.collector.specs.Collector.{gathered, collector_ok}
use Rattle.collector.specs.Taking.{is_next}
use Rattle.paging.specs.Paging.{is_some, from_page, written_page}
use Rattle.mapping.specs.Answers.{checked}
use Rattle.mapping.specs.Lookup.{not_init_at}
use Rattle.mapping.specs.Back.{owner, file_byte_in}
use Rattle.mapping.specs.Spans.{spans_of}
use Rattle.mapping.specs.Cutting.{not_init_asked, too_many, cut_refusal, cut_pieces, cut_count, room_after}
use Rattle.free_table.specs.Table.{table_ok}
use Rattle.growth_rules.specs.Steps.{Call, Step, stays, lacks, changes}
use Rattle.growth_rules.specs.Growing.{meets, step_of}
use Rattle.promises.specs.Numbers.{Refusal, ◌when◌}

-- "Page in: 1 to 8", for a collector c and the bytes s of a page. 6 to 8 are asked "over the gathered and new
-- components together".
abbrev pub page_in_numbers : Collector → List ℕ → List Refusal
page_in_numbers c s =
    let all = gathered c ++ components_of s in
    1 when not (collector_ok c)
    ∷ 2 when c.layout.complete
    ∷ 3 when not (page_form s)
    ∷ 4 when not (is_next c.pages c.layout.generation (head_of s))
    ∷ 5 when ltb 16 (c.layout.count + length (components_of s))
    ∷ 6 when not (every (field_tests all))
    ∷ 7 when not (neighbours_hold (head_of s).more (neighbours_of all))
    ∷ 8 when not (distinct_hold all)
    ∷ []

-- "Layout out of a collector: 1."
abbrev pub layout_out_numbers : Collector → List Refusal
layout_out_numbers c = 1 when (not (collector_ok c) || not c.layout.complete) ∷ []

-- "Page out: 1, 4, 20", for page k and a buffer of `room` bytes.
abbrev pub page_out_numbers : Layout → ℕ → ℕ → List Refusal
page_out_numbers l k room =
    1 when not (valid l)
    ∷ 4 when not (is_some (from_page k (view l)))
    ∷ 20 when ltb room (length (written_page l k))
    ∷ []

-- "Lookup: 1, 10, 11", for byte b.
abbrev pub lookup_numbers : Layout → ℕ → List Refusal
lookup_numbers l b =
    1 when not (valid l)
    ∷ 10 when leb (last_end (view l)) b
    ∷ 11 when any_of (not_init_at b) (view l)
    ∷ []

-- 14, "object byte hidden: its file offset is outside its component, or not below 2^64".
unfoldable pub hidden : Object → ℕ → List Component → Bool
hidden o p cs =
    let b = file_byte_in (owner o cs) o p in not (holds (owner o cs) b) || not (ltb b (2 ^ 64))

-- "Back: 1, 13, 14", for byte p of the object o.
abbrev pub back_numbers : Layout → Object → ℕ → List Refusal
back_numbers l o p =
    1 when not (valid l)
    ∷ 13 when not (elem same_object o (records_in (view l)))
    ∷ 14 when hidden o p (view l)
    ∷ []

-- "Cutting: 1, 9 to 12", for m bytes from offset a and n lent numbers.
abbrev pub cut_numbers : Layout → ℕ → ℕ → ℕ → List Refusal
cut_numbers l a m n =
    1 when not (valid l)
    ∷ 9 when ltb (2 ^ 64 - 1) (a + m)
    ∷ 10 when (ltb 0 m && ltb (last_end (view l)) (a + m))
    ∷ 11 when any_of (not_init_asked a (a + m)) (spans_of (view l))
    ∷ 12 when too_many n (cut_count a m (view l))
    ∷ []

-- The lent numbers `room` after a request is cut, as the contract of the call says it.
abbrev pub cut_room : Layout → ℕ → ℕ → List ℕ → List ℕ
cut_room l a m room = room_after (checked l (cut_refusal a m (length room) (view l))) (cut_pieces a m (view l)) room

-- 16, "too few usable targets".
unfoldable pub lacks_targets : Step → Bool
lacks_targets stays = false
lacks_targets lacks = true
lacks_targets (changes cs os) = false

-- 17, "growth would leave 17 components".
unfoldable pub leaves_many : Step → Bool
leaves_many stays = false
leaves_many lacks = false
leaves_many (changes cs os) = ltb 16 (length cs)

-- 18, "a chosen target and number already stand in the layout", whose object records are `others`.
unfoldable pub meets_layout : List Object → Step → Bool
meets_layout others stays = false
meets_layout others lacks = false
meets_layout others (changes cs os) = meets os others

-- "a change is due" (19).
unfoldable pub is_change : Step → Bool
is_change stays = false
is_change lacks = false
is_change (changes cs os) = true

-- "Growth: 1, 10, 15 to 19", for a call k.
abbrev pub growth_numbers : Layout → Call → List Refusal
growth_numbers l k =
    1 when not (valid l)
    ∷ 10 when leb (last_end (view l)) k.offset
    ∷ 15 when not (table_ok k.table)
    ∷ 16 when lacks_targets (step_of l k)
    ∷ 17 when leaves_many (step_of l k)
    ∷ 18 when meets_layout (records_in (view l)) (step_of l k)
    ∷ 19 when (is_change (step_of l k) && eqb l.generation (2 ^ 32 - 1))
    ∷ []
