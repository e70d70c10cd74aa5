-- What the host's calls give, as functions of the bytes of its pages, the arguments and the lent memory: for each call
-- the number that it returns, and what is in each lent place afterwards. What is in quotes is document 01's.
use Rattle.std.specs.Prelude.{ℕ, zero, suc, List, [], ◌∷◌, length}
use Rattle.std.proofs.Math.Option.{Option, none, some}
use Rattle.std.proofs.lemmas.List.Edits.{sets}
use Rattle.layout.specs.declared.Component.{Component}
use Rattle.layout.specs.declared.Layout.{Layout}
use Rattle.layout.specs.Records.{view}
use Rattle.collector.specs.Runs.{Reading, read_run, host_cut}
use Rattle.mapping.specs.Homes.{Home, in_object, home_of}
use Rattle.mapping.specs.Lookup.{lookup_refusal}
use Rattle.mapping.specs.Back.{back_refusal, byte_of}
use Rattle.mapping.specs.Cutting.{cut_refusal, cut_pieces, cut_count, all_numbers}
use Rattle.paging.specs.Paging.{written_page, write_refusal}

-- The reading of the bytes of the host's pages: "the layout as pages back to back, each ending after the records its
-- head counts".
abbrev pub host_reading : List ℕ → Reading
host_reading pages = read_run host_cut pages

-- The layout that was read.
abbrev pub host_layout : List ℕ → Layout
host_layout pages = (host_reading pages).layout

-- Its components.
abbrev pub host_components : List ℕ → List Component
host_components pages = view (host_layout pages)

-- Of two numbers, each 0 for no refusal, the first that refuses: m, or n if m is 0.
abbrev pub first_of : ℕ → ℕ → ℕ
first_of zero n = n
first_of (suc m) n = suc m

-- The number that a call on pages returns. `own` is the call's own number, 0 if it does not refuse: "a refusal of that
-- reading comes first".
unfoldable pub reading_first : List ℕ → ℕ → ℕ
reading_first pages own = first_of (host_reading pages).refusal own

-- What is in a lent place after the call, by its number: what was there, or what is new if the number is 0. "A refusal
-- returns its number only; all lent memory keeps its bytes."
unfoldable pub lent_after : {A : Type 0} → ℕ → A → A → A
lent_after zero new lent = new
lent_after (suc n) new lent = lent

-- The numbers of a home: the target and the number of the object, and the byte of it. If lookup is not refused there is
-- a home.
abbrev pub home_numbers : Option Home → List ℕ
home_numbers none = []
home_numbers (some (in_object o p)) = o.target ∷ o.number ∷ p ∷ []

-- Lookup of byte b (10, 11): the number,
unfoldable pub lookup_number : List ℕ → ℕ → ℕ
lookup_number pages b = reading_first pages (lookup_refusal b (host_components pages))

-- and the lent home afterwards: the numbers of the byte's home.
unfoldable pub home_after : List ℕ → ℕ → List ℕ → List ℕ
home_after pages b home = lent_after (lookup_number pages b) (home_numbers (home_of b (host_components pages))) home

-- Back from a home (13, 14): the number,
unfoldable pub back_number : List ℕ → Home → ℕ
back_number pages h = reading_first pages (back_refusal h (host_components pages))

-- and the lent offset afterwards: the file byte of the home.
unfoldable pub offset_after : List ℕ → Home → ℕ → ℕ
offset_after pages h offset = lent_after (back_number pages h) (byte_of h (host_components pages)) offset

-- The request of m bytes from offset a, cut into the lent numbers `room` (9 to 12): the number,
unfoldable pub cut_number : List ℕ → ℕ → ℕ → List ℕ → ℕ
cut_number pages a m room = reading_first pages (cut_refusal a m (length room) (host_components pages))

-- the room afterwards: the pieces in the first of the numbers, five numbers a piece,
unfoldable pub pieces_after : List ℕ → ℕ → ℕ → List ℕ → List ℕ
pieces_after pages a m room =
    lent_after (cut_number pages a m room) (sets room 0 (all_numbers (cut_pieces a m (host_components pages)))) room

-- and the lent count afterwards: how many pieces there are.
unfoldable pub count_after : List ℕ → ℕ → ℕ → List ℕ → ℕ → ℕ
count_after pages a m room count = lent_after (cut_number pages a m room) (cut_count a m (host_components pages)) count

-- Page k of the layout, written into the lent bytes `buffer` (4, 20): the number,
unfoldable pub page_number : List ℕ → ℕ → List ℕ → ℕ
page_number pages k buffer = reading_first pages (write_refusal (host_layout pages) k (length buffer))

-- the buffer afterwards: the page in its first bytes,
unfoldable pub buffer_after : List ℕ → ℕ → List ℕ → List ℕ
buffer_after pages k buffer = lent_after (page_number pages k buffer) (sets buffer 0 (written_page (host_layout pages) k)) buffer

-- and the lent number of bytes afterwards: how many the page has.
unfoldable pub written_after : List ℕ → ℕ → List ℕ → ℕ → ℕ
written_after pages k buffer written =
    lent_after (page_number pages k buffer) (length (written_page (host_layout pages) k)) written
