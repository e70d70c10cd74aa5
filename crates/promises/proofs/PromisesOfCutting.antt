-- The promises on requests cut into pieces, beside `cut` of `Promises`, which says how to read this. The contract of
-- `moorsickle::cut` is `cut_says r ≡ cut_of a m (length room) l`, and `cut_room l a m room` is in the lent numbers
-- afterwards. What is in quotes is document 01's.
use Rattle.std.specs.Prelude.{ℕ, ◌+◌, ◌^◌, ◌≤◌, ◌<◌, ◌≡◌, List, ◌↔◌, true, ◌&&◌, ltb, length}
use Rattle.lists.specs.Tests.{any_of}
use Rattle.layout.specs.declared.Component.{Component}
use Rattle.layout.specs.declared.Layout.{Layout}
use Rattle.layout.specs.Records.{view}
use Rattle.layout.specs.Rules.{valid}
use Rattle.mapping.specs.Answers.{gives, answer_number}
use Rattle.mapping.specs.Lookup.{not_init_at}
use Rattle.mapping.specs.Spans.{spans_of}
use Rattle.mapping.specs.Cutting.{not_init_asked, cut_pieces, cut_of}
use Rattle.mapping.specs.CutFacts.{Cut}
use Rattle.mapping.specs.AskedLaws.{past_asked, not_init_asked_lem}
use Rattle.mapping.proofs.CutTheorem as cutting
use Rattle.promises.specs.Numbers.{IsFirst}
use Rattle.promises.specs.Calls.{cut_numbers, cut_room}
use Rattle.promises.proofs.CallLaws as calls

-- "Cutting: 1, 9 to 12." The request has m bytes from offset a, and n numbers are lent.
pub cut_number_lem : (l : Layout) (a m n : ℕ) → IsFirst (answer_number (cut_of a m n l)) (cut_numbers l a m n)
cut_number_lem = calls.cut_number_lem

-- 10 says that some "byte asked for" lies at or past the end;
pub cut_past : (end a m : ℕ) → ((ltb 0 m && ltb end (a + m)) ≡ true) ↔ ((q : ℕ) × (a ≤ q) × (q < a + m) × (end ≤ q))
cut_past = past_asked

-- and 11 that some byte asked for lies in a component that is not init.
pub cut_not_init : (a b : ℕ) (cs : List Component)
    → (any_of (not_init_asked a b) (spans_of cs) ≡ true) ↔ ((q : ℕ) × (a ≤ q) × (q < b)
    × (any_of (not_init_at q) cs ≡ true))
cut_not_init = not_init_asked_lem

-- A request that is refused leaves the lent numbers as they were.
pub cut_keeps : (l : Layout) (a m : ℕ) (room : List ℕ) → 0 < answer_number (cut_of a m (length room) l)
    → cut_room l a m room ≡ room
cut_keeps = calls.cut_keeps

-- If a request is accepted with the answer k, there are k pieces, "the number of different cut places strictly inside
-- the request plus one, or 0 for length 0"; they "stand in file order and together are the request"; no cut place lies
-- strictly inside one; and each tells the homes of its bytes. These are the fields of `Cut`.
pub cut_right : (l : Layout) (a m n k : ℕ) → cut_of a m n l ≡ gives k
    → Cut a m k (view l) (cut_pieces a m (view l))
cut_right = cutting.cut_right

-- "Length 0 on a valid layout gives no pieces, wherever it points."
pub cut_empty : (l : Layout) (a n : ℕ) → valid l ≡ true → a < 2 ^ 64 → cut_of a 0 n l ≡ gives 0
cut_empty = cutting.cut_empty
