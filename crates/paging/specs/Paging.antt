-- Which components are in which page when a layout is written, and what a call that writes a page gives.
use Rattle.std.specs.Prelude.{ℕ, zero, suc, ◌+◌, ◌-◌, List, [], ◌∷◌, map, Result, Ok, Err, Bool, true, false, cond, leb, length, take, drop}
use Rattle.std.proofs.lemmas.List.Edits.{sets}
use Rattle.layout.specs.declared.Component.{Component}
use Rattle.layout.specs.declared.Layout.{Layout}
use Rattle.layout.specs.Records.{view}
use Rattle.layout.specs.Rules.{valid}
use Rattle.page.specs.declared.Head.{Head}
use Rattle.page.specs.Bytes.{size_of, page_bytes}

-- How many components, told by their sizes, go into a page that has `room` bytes left: "The writer puts a component
-- into the current page if it fits in 512 bytes, else it starts the next".
abbrev pub fitting : ℕ → List ℕ → ℕ
fitting room [] = 0
fitting room (size ∷ sizes) = cond (leb size room) (suc (fitting (room - size) sizes)) 0

-- How many go into a page that has its head only: 496 of its 512 bytes are left.
abbrev pub in_page : List ℕ → ℕ
in_page sizes = fitting 496 sizes

-- How many components are before page k.
abbrev pub page_start : ℕ → List ℕ → ℕ
page_start zero sizes = 0
page_start (suc k) sizes = in_page sizes + page_start k (drop (in_page sizes) sizes)

-- The sizes of components.
abbrev pub sizes_of : List Component → List ℕ
sizes_of cs = map size_of cs

-- The components from page k on.
abbrev pub from_page : ℕ → List Component → List Component
from_page k cs = drop (page_start k (sizes_of cs)) cs

-- The components of the first page.
abbrev pub first_page : List Component → List Component
first_page cs = take (in_page (sizes_of cs)) cs

-- The components after the first page.
abbrev pub later_pages : List Component → List Component
later_pages cs = drop (in_page (sizes_of cs)) cs

-- Is there a page for these components?
abbrev pub is_some : List Component → Bool
is_some [] = false
is_some (c ∷ cs) = true

-- The head of page k if `cs` are the components from that page on: "more" says that components are left for later
-- pages.
abbrev pub head_for : ℕ → ℕ → List Component → Head
head_for g k cs = record { more = is_some (later_pages cs); number = k; count = length (first_page cs); generation = g }

-- The bytes of page k if `cs` are the components from that page on.
abbrev pub page_from : ℕ → ℕ → List Component → List ℕ
page_from g k cs = page_bytes (head_for g k cs) (first_page cs)

-- The bytes of page k of a layout.
unfoldable pub written_page : Layout → ℕ → List ℕ
written_page l k = page_from l.generation k (from_page k (view l))

-- The number of the refusal to write page k of a valid layout into a buffer of `room` bytes, or 0: 4, "on writing, no
-- such page"; 20, "buffer shorter than the page to be written".
unfoldable pub write_refusal : Layout → ℕ → ℕ → ℕ
write_refusal l k room = cond (is_some (from_page k (view l))) (cond (leb (length (written_page l k)) room) 0 20) 4

-- The same of any layout, 1 if it is not valid, which is asked first.
unfoldable pub out_refusal : Layout → ℕ → ℕ → ℕ
out_refusal l k room = cond (valid l) (write_refusal l k room) 1

-- What a call that writes a page answers under the number of a refusal, or under 0: the number, or how many bytes were
-- written.
unfoldable pub out_answer : ℕ → List ℕ → Result ℕ ℕ
out_answer zero page = Ok (length page)
out_answer (suc n) page = Err (suc n)

-- The number that an answer means: that of the refusal, and 0 if the page was written.
unfoldable pub out_number : Result ℕ ℕ → ℕ
out_number (Ok bytes) = 0
out_number (Err n) = n

-- The buffer under the number of a refusal, or under 0: as it was, or with the page in its first bytes; "buffer bytes
-- past it stay".
unfoldable pub out_buffer : ℕ → List ℕ → List ℕ → List ℕ
out_buffer zero page buffer = sets buffer 0 page
out_buffer (suc n) page buffer = buffer
