-- Document 01's "Table of proved examples", rows a to m, under one statement. What is in quotes is the paper's. If it
-- leaves an object open, one is chosen: in layout A component 1 has the object (target 0, number 10) and component 2 has (1, 11),
-- (2, 12) and (3, 13), one for each stripe; in layout B component 1 has (0, 10).
use Rattle.std.specs.Prelude.{ℕ, ◌≡◌, refl, List, [], ◌∷◌}
use Rattle.std.proofs.Math.Option.{some}
use Rattle.layout.specs.declared.Component.{Component}
use Rattle.layout.specs.declared.Layout.{Layout}
use Rattle.layout.specs.Records.{packed}
use Rattle.layout.specs.Rows.{object_of}
use Rattle.layout.specs.Samples.{eof, mega, init_of, bare_of, extension_of, layout_a, layout_b}
use Rattle.mapping.specs.Answers.{gives, refuses}
use Rattle.mapping.specs.Cutting.{all_numbers}
use Rattle.mapping.specs.Samples.{piece}
use Rattle.worked_table.specs.Asking.{lookup, back, cut, Row, of, next, Reply, looked_up, found_back, cut_into}
use Rattle.worked_table.specs.Asking.{home_by, replies_from, replies, grows_to, usable_at, low_at, grow_at}

-- Layout A; the paper leaves its generation open.
abbrev pub A : Layout
A = packed 1 layout_a

-- Layout B, "the listing above", whose generation is 9.
abbrev pub B : Layout
B = packed 9 layout_b

-- What is asked, row by row.
abbrev pub questions : List Row
questions =
    -- a: "A, 2,097,151"
    of A (lookup 2097151)
    -- b: "A, 2,097,152"
    ∷ of A (lookup 2097152)
    -- c: "A, 3,145,733"
    ∷ of A (lookup 3145733)
    -- d: "A, 16,777,215"
    ∷ of A (lookup 16777215)
    -- e: "A, 16,777,216"
    ∷ of A (lookup 16777216)
    -- f: "A, 2^64 - 1"
    ∷ of A (lookup eof)
    -- g: "A back, id 2 stripe 1 byte 1M"
    ∷ of A (back 2 1 (mega 1))
    -- h: "A back, id 2 stripe 1 byte 0"
    ∷ of A (back 2 1 0)
    -- i: "A, cut (2,097,150, 4)"
    ∷ of A (cut 2097150 4)
    -- j: "B, 16M, none low"
    ∷ of B (grow_at (mega 16) (usable_at 0 20 ∷ usable_at 1 30 ∷ []))
    -- k: "then 32M, 0 low, 1 usable"
    ∷ next (grow_at (mega 32) (low_at 0 20 ∷ usable_at 1 30 ∷ []))
    -- l: "then 56M, 1 low, 0 usable"
    ∷ next (grow_at (mega 56) (usable_at 0 20 ∷ low_at 1 31 ∷ []))
    -- m: "then 80M, both low"
    ∷ next (grow_at (mega 80) (low_at 0 21 ∷ low_at 1 31 ∷ []))
    ∷ []

-- A lookup in layout A gives the home that the paper tells by component id, stripe and byte.
abbrev pub home_at : ℕ → ℕ → ℕ → Reply
home_at id stripe byte = looked_up (gives (some (home_by layout_a id stripe byte)))

-- Component 1 from row j on, and component 3 from row k on.
abbrev one : Component
one = init_of 1 0 (mega 32) (mega 1) 0 (object_of 0 10 ∷ [])

abbrev three : Component
three = init_of 3 (mega 32) (mega 56) (mega 1) 1 (object_of 1 30 ∷ [])

-- What is answered, row by row. Rows j to m have all the components afterwards, also those that the paper does not repeat.
abbrev pub answers : List Reply
answers =
    -- a: "id 1, stripe 0, byte 2,097,151"
    home_at 1 0 2097151
    -- b: "id 2, stripe 2, byte 0"
    ∷ home_at 2 2 0
    -- c: "id 2, stripe 0, byte 1,048,581"
    ∷ home_at 2 0 1048581
    -- d: "id 2, stripe 0, byte 6,291,455"
    ∷ home_at 2 0 6291455
    -- e: "11"
    ∷ looked_up (refuses 11)
    -- f: "10"
    ∷ looked_up (refuses 10)
    -- g: "4,194,304"
    ∷ found_back (gives 4194304)
    -- h: "14"
    ∷ found_back (refuses 14)
    -- i: "(2097150, 2, 1, 0, 2097150), (2097152, 2, 2, 2, 0)"
    ∷ cut_into (gives 2) (all_numbers (piece 2097150 2 1 0 2097150 ∷ piece 2097152 2 2 2 0 ∷ []))
    -- j: "1 [0, 32M), 2 [32M, 100M)"
    ∷ grows_to 10
    (one ∷ extension_of 2 (mega 32) (mega 100) (mega 16)
    ∷ bare_of 3 (mega 100) (mega 100) 1 (mega 1)
    ∷ extension_of 4 (mega 100) eof (mega 24)
    ∷ [])
    (usable_at 0 20 ∷ usable_at 1 30 ∷ [])
    -- k: "1 [0, 32M), 3 [32M, 56M) on 1, 4 [56M, EOF)"
    ∷ grows_to 11
    (one ∷ three ∷ extension_of 4 (mega 56) eof (mega 24)
    ∷ [])
    (low_at 0 20 ∷ usable_at 1 31 ∷ [])
    -- l: "new id 2 [56M, 80M) on 0, 4 [80M, EOF)"
    ∷ grows_to 12
    (one ∷ three ∷ init_of 2 (mega 56) (mega 80) (mega 1) 0 (object_of 0 20 ∷ [])
    ∷ extension_of 4 (mega 80) eof (mega 24)
    ∷ [])
    (usable_at 0 21 ∷ low_at 1 31 ∷ [])
    -- m: "2 [56M, 104M), 4 [104M, EOF)"
    ∷ grows_to 13
    (one ∷ three ∷ init_of 2 (mega 56) (mega 104) (mega 1) 0 (object_of 0 20 ∷ [])
    ∷ extension_of 4 (mega 104) eof (mega 24)
    ∷ [])
    (low_at 0 21 ∷ low_at 1 31 ∷ [])
    ∷ []

-- "Examples a to m are one table under one statement."
pub table_a_to_m : replies questions ≡ answers
unfolding replies_from
table_a_to_m = refl
