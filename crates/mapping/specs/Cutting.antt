-- A request cut into pieces (1, 9 to 12). What is in quotes is document 01's.
use Rattle.std.specs.Prelude.{ℕ, Result, Ok, Err, zero, suc, ◌+◌, ◌-◌, ◌*◌, ◌/◌, ◌^◌, min, max, List, [], ◌∷◌, ◌++◌, Bool, not, cond, ◌&&◌, ◌||◌, ltb}
use Rattle.std.proofs.lemmas.List.Edits.{sets}
use Rattle.lists.specs.Tests.{any_of}
use Rattle.refusals.specs.declared.Refusal.{Refusal}
use Rattle.refusals.specs.Refusals.{number_of}
use Rattle.stripe.specs.Stripe.{unit_of, stripe_of, object_byte}
use Rattle.layout.specs.declared.Component.{Component}
use Rattle.layout.specs.declared.Layout.{Layout}
use Rattle.layout.specs.Records.{view}
use Rattle.layout.specs.Holder.{last_end}
use Rattle.mapping.specs.declared.Span.{Span}
use Rattle.mapping.specs.declared.Piece.{Piece}
use Rattle.mapping.specs.Spans.{spans_of}
use Rattle.mapping.specs.Answers.{Answer, gives, refuses, answer, checked}

-- Where the unit of byte a ends: the first multiple of z above a.
unfoldable pub unit_end : ℕ → ℕ → ℕ
unit_end z a = (unit_of z a + 1) * z

-- How many units of z bytes have a byte among those from a to b, b not among them.
unfoldable pub unit_count : ℕ → ℕ → ℕ → ℕ
unit_count z a b = cond (ltb a b) (unit_of z (b - 1) - unit_of z a + 1) 0

-- The piece from a to b of a component, told by its id, stripe size and stripe count: "A piece is five 64-bit numbers:
-- file offset, length, component id, stripe, object byte."
abbrev pub piece_from : ℕ → ℕ → ℕ → ℕ → ℕ → Piece
piece_from id z s a b =
    record { offset = a; length = b - a; id = id; stripe = stripe_of z s a; byte = object_byte z s a }

-- The first n pieces from a to b of a component: each ends at the next multiple of the stripe size or at b, whichever
-- is lower, and the next begins there.
abbrev pub unit_pieces : ℕ → ℕ → ℕ → ℕ → ℕ → ℕ → List Piece
unit_pieces zero id z s a b = []
unit_pieces (suc n) id z s a b =
    piece_from id z s a (min (unit_end z a) b) ∷ unit_pieces n id z s (min (unit_end z a) b) b

-- Where the part of a request begins that lies in a component; the request begins at a.
abbrev pub part_begin : ℕ → Span → ℕ
part_begin a c = max a c.begin

-- Where that part ends; the request ends at b.
abbrev pub part_end : ℕ → Span → ℕ
part_end b c = min b c.end

-- A byte of the request from a to b lies in the component.
abbrev pub touches : ℕ → ℕ → Span → Bool
touches a b c = ltb (part_begin a c) (part_end b c)

-- The number of pieces of the request from a to b in one component: one for each unit if it is init, else none.
abbrev pub part_count : ℕ → ℕ → Span → ℕ
part_count a b c = cond c.init (unit_count c.stripe_size (part_begin a c) (part_end b c)) 0

-- Those pieces.
abbrev pub part_pieces : ℕ → ℕ → Span → List Piece
part_pieces a b c =
    unit_pieces (part_count a b c) c.id c.stripe_size c.stripe_count (part_begin a c) (part_end b c)

-- The pieces of the request from a to b: "A request (offset, length) is cut at every component border and every
-- multiple of the component's stripe size, also where S is 1." "Pieces stand in file order".
abbrev pub pieces_of : ℕ → ℕ → List Span → List Piece
pieces_of a b [] = []
pieces_of a b (c ∷ cs) = part_pieces a b c ++ pieces_of a b cs

-- How many they are.
abbrev pub piece_count : ℕ → ℕ → List Span → ℕ
piece_count a b [] = 0
piece_count a b (c ∷ cs) = part_count a b c + piece_count a b cs

-- A byte of the request from a to b lies in the component, and that is not init.
abbrev pub not_init_asked : ℕ → ℕ → Span → Bool
not_init_asked a b c = not c.init && touches a b c

-- More pieces than 256 or than the room, of which n numbers were lent: "Room is the lent length / 5 rounded down".
unfoldable pub too_many : ℕ → ℕ → Bool
too_many n pieces = ltb 256 pieces || ltb (n / 5) pieces

-- The number of the refusal to cut the request of m bytes from offset a into n lent numbers, or 0, of components whose
-- last one ends at `end`: 9, "offset + length above 2^64 - 1"; 10, "a byte asked for lies at or past the last
-- component's end"; 11, "a byte asked for lies in a component that is not init"; 12, "more pieces than 256 or than the
-- lent room".
unfoldable pub refusal_by : ℕ → ℕ → ℕ → ℕ → List Span → ℕ
refusal_by end a m n xs =
    cond (ltb (2 ^ 64 - 1) (a + m)) 9
    (cond (ltb 0 m && ltb end (a + m)) 10
    (cond (any_of (not_init_asked a (a + m)) xs) 11
    (cond (too_many n (piece_count a (a + m) xs)) 12 0)))

-- The same of a list of components.
abbrev pub cut_refusal : ℕ → ℕ → ℕ → List Component → ℕ
cut_refusal a m n cs = refusal_by (last_end cs) a m n (spans_of cs)

-- The pieces of the request of m bytes from offset a.
abbrev pub cut_pieces : ℕ → ℕ → List Component → List Piece
cut_pieces a m cs = pieces_of a (a + m) (spans_of cs)

-- How many they are.
abbrev pub cut_count : ℕ → ℕ → List Component → ℕ
cut_count a m cs = piece_count a (a + m) (spans_of cs)

-- The number of pieces, or a refusal number, of components that keep the rules.
unfoldable pub cut_in : ℕ → ℕ → ℕ → List Component → Answer ℕ
cut_in a m n cs = answer (cut_refusal a m n cs) (cut_count a m cs)

-- The same of any layout, 1 if it is not valid.
unfoldable pub cut_of : ℕ → ℕ → ℕ → Layout → Answer ℕ
cut_of a m n l = answer (checked l (cut_refusal a m n (view l))) (cut_count a m (view l))

-- The five numbers of a piece.
abbrev pub piece_numbers : Piece → List ℕ
piece_numbers p = p.offset ∷ p.length ∷ p.id ∷ p.stripe ∷ p.byte ∷ []

-- The numbers of pieces, one piece after another.
abbrev pub all_numbers : List Piece → List ℕ
all_numbers [] = []
all_numbers (p ∷ ps) = piece_numbers p ++ all_numbers ps

-- The lent numbers under the number of a refusal, or under 0: as they were, or with the pieces in the first of them;
-- "numbers past the pieces stay".
unfoldable pub room_after : ℕ → List Piece → List ℕ → List ℕ
room_after zero ps room = sets room 0 (all_numbers ps)
room_after (suc n) ps room = room

-- What the answer of `cut` says, case by case: `Ok` how many pieces there are, `Err` the number of the refusal.
unfoldable pub cut_says : Result ℕ Refusal → Answer ℕ
cut_says (Ok n) = gives n
cut_says (Err e) = refuses (number_of e)
