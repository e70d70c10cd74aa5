-- The promises on a page out, beside `page_out` of `Promises`, which says how to read this. The contract of
-- `moorsickle::page_out` gives `out_answer` and `out_buffer` under `out_refusal`. What is in quotes is document 01's.
use Rattle.std.specs.Prelude.{ℕ, ◌<◌, ◌≡◌, Ok, List, length}
use Rattle.std.proofs.lemmas.List.Edits.{sets}
use Rattle.layout.specs.declared.Layout.{Layout}
use Rattle.paging.specs.Paging.{out_refusal, out_answer, out_number, out_buffer}
use Rattle.paging.specs.PagingLaws as paging
use Rattle.promises.specs.Numbers.{IsFirst}
use Rattle.promises.specs.Calls.{page_out_numbers}
use Rattle.promises.proofs.NumberLaws as numbers
use Rattle.promises.proofs.CallLaws as calls

-- "Page out: 1, 4, 20."
pub page_out_number : (l : Layout) (k room : ℕ) → IsFirst (out_refusal l k room) (page_out_numbers l k room)
page_out_number = calls.page_out_number

-- The answer under a number has that number;
pub page_out_answer : (n : ℕ) (page : List ℕ) → out_number (out_answer n page) ≡ n
page_out_answer = paging.out_number_lem

-- under the number of a refusal the buffer stays as it was;
pub page_out_keeps : (n : ℕ) (page buffer : List ℕ) → 0 < n → out_buffer n page buffer ≡ buffer
page_out_keeps = numbers.buffer_kept

-- and under 0 the answer is the length of the page, which is in the first bytes; "buffer bytes past it stay".
pub page_out_written : (n : ℕ) (page buffer : List ℕ) → n ≡ 0
    → (out_answer n page ≡ Ok (length page)) × (out_buffer n page buffer ≡ sets buffer 0 page)
page_out_written = calls.page_out_written
