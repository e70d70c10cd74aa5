-- The listing of a run of pages: "The program reads pages, each after its u16 length, and prints exactly this form".
-- A text is the list of its bytes, in ASCII.
use Rattle.std.specs.Prelude.{ℕ, zero, suc, ◌+◌, ◌/◌, ◌%◌, List, [], ◌∷◌, ◌++◌, Bool, cond, ltb, eqb, ℤ, pos, negsuc}
use Rattle.layout.specs.declared.Component.{Component}
use Rattle.layout.specs.declared.Layout.{Layout}
use Rattle.layout.specs.Records.{view}
use Rattle.collector.specs.Runs.{Reading, read_run, listed_cut}
use Rattle.listing.specs.Texts.{ascii}

-- The last decimal digit of a number; 48 is `0`.
abbrev pub digit : ℕ → ℕ
digit n = 48 + n % 10

-- The decimal digits of a number that has at most k + 1 of them, the highest first.
abbrev pub decimal_by : ℕ → ℕ → List ℕ
decimal_by zero n = digit n ∷ []
decimal_by (suc k) n = cond (ltb n 10) (digit n ∷ []) (decimal_by k (n / 10) ++ (digit n ∷ []))

-- A number of 64 bits in decimal: its digits, at most 20, the highest first, with no zero in front; `0` for 0.
unfoldable pub decimal : ℕ → List ℕ
decimal n = decimal_by 19 n

-- A signed number in decimal; 45 is `-`.
unfoldable pub signed : ℤ → List ℕ
signed (pos n) = decimal n
signed (negsuc n) = 45 ∷ decimal (suc n)

-- Where an extent ends: "EOF is 2^64 - 1".
unfoldable pub end_word : ℕ → List ℕ
end_word end = cond (eqb end 18446744073709551615) (ascii "eof") (decimal end)

-- "kind (init, bare, extension)", by the two flags.
unfoldable pub kind_word : Bool → Bool → List ℕ
kind_word init extension = cond init (ascii "init") (cond extension (ascii "extension") (ascii "bare"))

-- "size (of an extension, its extension size)".
abbrev pub size_in : Bool → ℕ → ℕ → ℕ
size_in extension stripe size = cond extension size stripe

-- A line: its words with a space between them, and a line feed after the last.
abbrev pub line : List (List ℕ) → List ℕ
line [] = 10 ∷ []
line (w ∷ []) = w ++ (10 ∷ [])
line (w ∷ x ∷ ws) = w ++ (32 ∷ []) ++ line (x ∷ ws)

-- "the first line has the generation and the number of components".
abbrev pub head_line : ℕ → ℕ → List ℕ
head_line generation count = line (ascii "layout" ∷ decimal generation ∷ ascii "components" ∷ decimal count ∷ [])

-- "each further line is id, begin, end, kind (init, bare, extension), stripe count, size (of an extension, its
-- extension size), first target": the words of a component's line from its stripe count on,
abbrev pub striping_words : Component → List (List ℕ)
striping_words c =
    decimal c.stripe_count
    ∷ decimal (size_in c.extension c.stripe_size c.extension_size)
    ∷ signed c.first_target
    ∷ []

-- from its end on,
abbrev pub state_words : Component → List (List ℕ)
state_words c = end_word c.end ∷ kind_word c.init c.extension ∷ striping_words c

-- and all of them.
abbrev pub component_line : Component → List ℕ
component_line c = line (decimal c.id ∷ decimal c.begin ∷ state_words c)

-- A line for each component, in their order.
abbrev pub component_lines : List Component → List ℕ
component_lines [] = []
component_lines (c ∷ cs) = component_line c ++ component_lines cs

-- The listing of a layout.
abbrev pub layout_text : Layout → List ℕ
layout_text l = head_line l.generation l.count ++ component_lines (view l)

-- "At the first refusal it prints only `refused N page P`, P counting from 0."
abbrev pub refused_line : ℕ → ℕ → List ℕ
refused_line number page = line (ascii "refused" ∷ decimal number ∷ ascii "page" ∷ decimal page ∷ [])

-- The listing of what a reading gave.
abbrev pub reading_text : Reading → List ℕ
reading_text r = cond (eqb r.refusal 0) (layout_text r.layout) (refused_line r.refusal r.page)

-- The listing of the bytes that are read.
unfoldable pub listing_of : List ℕ → List ℕ
listing_of s = reading_text (read_run listed_cut s)
