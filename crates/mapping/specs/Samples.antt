-- Document 01's examples a to i, asked of layout A by computing the definitions. Component 1 has the object (target 0,
-- number 10); component 2 has (1, 11), (2, 12) and (3, 13), one for each stripe.
use Rattle.std.specs.Prelude.{ℕ, ◌-◌, ◌≡◌, refl, List, [], ◌∷◌, map}
use Rattle.std.proofs.Math.Option.{Option, some}
use Rattle.stripe.specs.Stripe.{unit_of, stripe_of, object_byte, file_byte}
use Rattle.layout.specs.Records.{pack_objects}
use Rattle.layout.specs.Rows.{object_of}
use Rattle.layout.specs.Distinct.{same_object}
use Rattle.layout.specs.Samples.{eof, mega, init_of, bare_of, layout_a}
use Rattle.mapping.specs.declared.Piece.{Piece}
use Rattle.mapping.specs.Answers.{Answer, gives, refuses}
use Rattle.mapping.specs.Homes.{Home, in_object, home_in, home_of}
use Rattle.mapping.specs.Lookup.{lookup_refusal, lookup_in}
use Rattle.mapping.specs.Back.{file_byte_in, hidden_refusal, back_refusal, byte_of, back_in}
use Rattle.mapping.specs.Spans.{spans_of}
use Rattle.mapping.specs.Cutting.{unit_end, unit_count, pieces_of, too_many, refusal_by, cut_in}
use Rattle.mapping.specs.CutPlaces.{cut_place, count_by_places}

-- Lookup of a byte of layout A.
unfoldable pub asked : ℕ → Answer (Option Home)
unfolding lookup_in lookup_refusal home_of home_in unit_of stripe_of object_byte pack_objects init_of bare_of layout_a
asked b = lookup_in b layout_a

-- Byte p of the object with this target and number.
abbrev pub at : ℕ → ℕ → ℕ → Home
at target number p = in_object (object_of target number) p

-- A home as a lookup gives it.
abbrev pub home : ℕ → ℕ → ℕ → Answer (Option Home)
home target number p = gives (some (at target number p))

-- a to f: "id 1, stripe 0, byte 2,097,151"; "id 2, stripe 2, byte 0"; "id 2, stripe 0, byte 1,048,581"; "id 2, stripe
-- 0, byte 6,291,455"; "11"; "10".
pub lookups : map asked (2097151 ∷ 2097152 ∷ 3145733 ∷ 16777215 ∷ 16777216 ∷ eof ∷ [])
    ≡ home 0 10 2097151 ∷ home 3 13 0 ∷ home 1 11 1048581 ∷ home 1 11 6291455 ∷ refuses 11 ∷ refuses 10 ∷ []
unfolding asked
lookups = refl

-- Back from a home in layout A.
unfoldable pub way_back : Home → Answer ℕ
unfolding back_in back_refusal byte_of hidden_refusal file_byte_in file_byte same_object pack_objects init_of bare_of layout_a
way_back h = back_in h layout_a

-- g and h: back from "id 2 stripe 1 byte 1M" is "4,194,304", and from "byte 0" it is "14"; an object that is not in the
-- layout is 13.
pub backs : map way_back (at 2 12 (mega 1) ∷ at 2 12 0 ∷ at 2 11 0 ∷ []) ≡ gives 4194304 ∷ refuses 14 ∷ refuses 13 ∷ []
unfolding way_back
backs = refl

-- A piece by its five numbers.
abbrev pub piece : ℕ → ℕ → ℕ → ℕ → ℕ → Piece
piece offset length id stripe byte =
    record { offset = offset; length = length; id = id; stripe = stripe; byte = byte }

-- The pieces of the request from a to b of layout A.
unfoldable pub cut_from : ℕ → ℕ → List Piece
unfolding unit_end unit_count unit_of stripe_of object_byte pack_objects init_of bare_of layout_a
cut_from a b = pieces_of a b (spans_of layout_a)

-- i: "(2097150, 2, 1, 0, 2097150), (2097152, 2, 2, 2, 0)".
pub pieces : cut_from 2097150 2097154 ≡ piece 2097150 2 1 0 2097150 ∷ piece 2097152 2 2 2 0 ∷ []
unfolding cut_from
pieces = refl

-- The number of pieces of a request of m bytes of layout A, with 10 numbers lent.
unfoldable pub counted : ℕ → ℕ → Answer ℕ
unfolding cut_in refusal_by too_many unit_count unit_of pack_objects init_of bare_of layout_a
counted a m = cut_in a m 10 layout_a

pub counts : (counted 2097150 4 ≡ gives 2) × (counted 2097150 0 ≡ gives 0) × (counted eof 1 ≡ refuses 9)
    × (counted (eof - 1) 1 ≡ refuses 11) × (counted 0 (mega 2) ≡ gives 2) × (counted 0 (mega 3) ≡ refuses 12)
unfolding counted
counts = (refl, refl, refl, refl, refl, refl)

-- The cut places strictly inside a request of layout A, and one more.
unfoldable pub places : ℕ → ℕ → ℕ
unfolding cut_place pack_objects init_of bare_of layout_a
places a m = count_by_places a m layout_a

pub place_counts : (places 2097150 4 ≡ 2) × (places 2097152 4 ≡ 1) × (places 1048574 3 ≡ 2) × (places 5 0 ≡ 0)
unfolding places
place_counts = (refl, refl, refl, refl)
