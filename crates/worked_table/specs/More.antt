-- Further examples of growth, as one table under one statement: each refusal, which one is given if several apply, and the
-- edges of each step. What is in quotes is document 01's.
use Rattle.std.specs.Prelude.{ℕ, zero, suc, ◌+◌, ◌-◌, ◌*◌, ◌≡◌, refl, List, [], ◌∷◌, ◌++◌}
use Rattle.layout.specs.declared.Component.{Component}
use Rattle.layout.specs.Records.{packed}
use Rattle.layout.specs.Rows.{object_of}
use Rattle.layout.specs.Samples.{eof, mega, init_of, bare_of, extension_of, layout_a}
use Rattle.free_table.specs.declared.TargetRecord.{TargetRecord}
use Rattle.worked_table.specs.Asking.{Row, of, Reply, replies_from, replies, grows_to, grows_towards, stays_at, refused_by}
use Rattle.worked_table.specs.Asking.{usable_at, low_at, grow_at}

-- A call of growth on the layout of a generation and components, at an offset, with a table.
abbrev pub on : ℕ → List Component → ℕ → List TargetRecord → Row
on generation cs offset table = of (packed generation cs) (grow_at offset table)

-- The highest generation.
abbrev pub highest : ℕ
highest = 4294967295

-- Four usable targets. Any other target, as 5 or 6, is low: "it isn't in the table".
abbrev pub four : List TargetRecord
four = usable_at 0 70 ∷ usable_at 1 71 ∷ usable_at 3 73 ∷ usable_at 9 79 ∷ []

-- The same after one target was chosen.
abbrev pub four_after_one : List TargetRecord
four_after_one = usable_at 0 71 ∷ usable_at 1 71 ∷ usable_at 3 73 ∷ usable_at 9 79 ∷ []

-- The same after all four were chosen.
abbrev pub four_after_all : List TargetRecord
four_after_all = usable_at 0 71 ∷ usable_at 1 72 ∷ usable_at 3 74 ∷ usable_at 9 80 ∷ []

-- Four targets, of which three are usable.
abbrev pub three : List TargetRecord
three = low_at 0 70 ∷ usable_at 1 71 ∷ usable_at 3 73 ∷ usable_at 9 79 ∷ []

-- A table whose targets do not rise.
abbrev pub twice : List TargetRecord
twice = usable_at 1 70 ∷ usable_at 1 71 ∷ []

-- A target that is not low and yet not usable: it has no next number.
abbrev pub used_up : ℕ → TargetRecord
used_up target = usable_at target eof

-- n usable targets from `from` on.
abbrev pub targets : ℕ → ℕ → List TargetRecord
targets zero from = []
targets (suc n) from = usable_at from 70 ∷ targets n (from + 1)

-- Component 1 up to an end: init, with one stripe of 1M on target 5.
abbrev pub first_to : ℕ → Component
first_to end = init_of 1 0 end (mega 1) 5 (object_of 5 1 ∷ [])

-- The components after a spill-over of the byte range from 1M to `end` onto component 3, whose one object is given.
abbrev spilled_to : ℕ → ℕ → ℕ → List Component
spilled_to end target number =
    first_to (mega 1)
    ∷ init_of 3 (mega 1) end (mega 1) target (object_of target number ∷ [])
    ∷ extension_of 4 end eof (mega 1)
    ∷ []

-- n init components of 64 KiB, of which the first has the id i + 1, lies on target i and begins at i times 64 KiB.
abbrev pub inits : ℕ → ℕ → List Component
inits zero i = []
inits (suc n) i = init_of (i + 1) (i * 65536) ((i + 1) * 65536) 65536 i (object_of i 1 ∷ []) ∷ inits n (i + 1)

-- 16 components: 15 such, and an extension up to an end.
abbrev pub sixteen_to : ℕ → List Component
sixteen_to end = inits 15 0 ++ (extension_of 16 (15 * 65536) end 65536 ∷ [])

-- Component 1 and its extension before an init component, which has an extension too.
abbrev pub before_init : List Component
before_init =
    first_to (mega 1)
    ∷ extension_of 2 (mega 1) (mega 2) (mega 1)
    ∷ init_of 3 (mega 2) (mega 3) (mega 1) 5 (object_of 5 2 ∷ [])
    ∷ extension_of 4 (mega 3) eof (mega 1)
    ∷ []

-- Component 1 and its extension before a bare component of four stripes, which no extension follows.
abbrev pub before_bare : List Component
before_bare = first_to (mega 1) ∷ extension_of 2 (mega 1) (mega 8) (mega 1) ∷ bare_of 3 (mega 8) eof 4 (mega 1) ∷ []

-- Component 1 and its extension before an empty component at `begin`, which an extension up to `end` follows, of this extension
-- size.
abbrev pub before_empty : ℕ → ℕ → ℕ → List Component
before_empty begin end size =
    first_to (mega 1)
    ∷ extension_of 2 (mega 1) begin (mega 1)
    ∷ bare_of 3 begin begin 1 (mega 1)
    ∷ extension_of 4 begin end size
    ∷ []

-- An init component up to an end, with two stripes of 1M on targets 5 and 6, and its extension, which is last.
abbrev pub two_stripes : ℕ → List Component
two_stripes end =
    init_of 1 0 end (mega 1) 5 (object_of 5 1 ∷ object_of 6 1 ∷ []) ∷ extension_of 2 end eof (mega 4) ∷ []

-- Nothing is init: an empty component of two stripes, and its extension.
abbrev pub nothing_init : List Component
nothing_init = bare_of 1 0 0 2 (mega 1) ∷ extension_of 2 0 eof (mega 8) ∷ []

-- What is asked, in groups of rows.
abbrev pub questions : List Row
questions =
    -- 1: the last component is empty; the table is bad too
    on 5 (bare_of 3 0 0 4 (mega 1) ∷ []) 0 twice
    -- 10: at the end of the last component; the table is bad too
    ∷ on 5 layout_a eof twice
    -- 15: a target that is there twice, 65 targets, and target 65,535; nothing would have been chosen
    ∷ on 5 layout_a 0 twice
    ∷ on 5 layout_a 0 (targets 65 0)
    ∷ on 5 layout_a 0 (usable_at 65535 70 ∷ [])
    -- 64 targets up to 65,534 are not too many
    ∷ on 5 layout_a 0 (targets 64 65471)
    -- 16: of the four wanted targets one is low, and the generation is the highest; one has no next number
    ∷ on highest layout_a (mega 16) three
    ∷ on 5 layout_a (mega 16) (used_up 0 ∷ usable_at 1 71 ∷ usable_at 3 73 ∷ usable_at 9 79 ∷ [])
    -- 16 for an extension whose component is not init, and in a spill-over
    ∷ on 5 nothing_init 0 (usable_at 0 70 ∷ [])
    ∷ on 5 before_bare (mega 1) three
    -- 17: a repeat with 16 components there; the object (0, 1) is in the layout, and the generation is the highest
    ∷ on highest (sixteen_to eof) (15 * 65536) (usable_at 0 1 ∷ [])
    -- 18: the object (0, 10) is in the layout; the generation is the highest
    ∷ on highest layout_a (mega 16) (usable_at 0 10 ∷ usable_at 1 71 ∷ usable_at 3 73 ∷ usable_at 9 79 ∷ [])
    -- 19
    ∷ on highest layout_a (mega 16) four
    -- "Init: no change, accepted.", also at the highest generation
    ∷ on highest layout_a 0 four
    -- "Not init, no extension", of four stripes
    ∷ on 5 layout_a (mega 16) four
    -- the same, with 2^64 - 2, the highest number that is chosen
    ∷ on 5 (bare_of 1 0 eof 1 65536 ∷ []) 0 (usable_at 0 (eof - 1) ∷ [])
    -- "Extension X after C, C not init"
    ∷ on 5 nothing_init (mega 3) four
    -- "C init, none of its targets low", though they are not usable
    ∷ on 5 (two_stripes (mega 4)) (mega 4) (used_up 5 ∷ used_up 6 ∷ usable_at 7 70 ∷ usable_at 8 70 ∷ [])
    -- a grant that does not reach the offset
    ∷ on 5 nothing_init (mega 8) four
    -- a grant with begin + extension size past 2^64
    ∷ on 5 (first_to (eof - 100) ∷ extension_of 2 (eof - 100) eof 65536 ∷ []) (eof - 1) (usable_at 5 70 ∷ [])
    -- spill-over onto an init component
    ∷ on 5 before_init (mega 1) four
    -- spill-over onto a bare component without an extension
    ∷ on 5 before_bare (mega 1) four
    -- spill-over that empties Y
    ∷ on 5 (before_empty (mega 2) (mega 3) (mega 16)) (mega 1) four
    -- spill-over that does not reach the offset
    ∷ on 5 (before_empty (mega 8) eof (mega 1)) (mega 7) four
    -- spill-over with N's new begin + Y's extension size past 2^64
    ∷ on 5 (before_empty (eof - 100) eof 18446744073709486080) (mega 1) four
    -- a repeat that empties the extension, with 16 components there
    ∷ on 5 (sixteen_to (16 * 65536)) (15 * 65536) four
    -- forced extension: one usable target of the two wanted; a table without records
    ∷ on 5 (two_stripes (mega 4)) (mega 4) (usable_at 0 70 ∷ low_at 5 70 ∷ used_up 6 ∷ [])
    ∷ on 5 (two_stripes (mega 4)) (mega 4) []
    ∷ []

-- What is answered, in the same groups.
abbrev pub answers : List Reply
answers =
    -- 1
    refused_by 1 5 (bare_of 3 0 0 4 (mega 1) ∷ []) twice
    -- 10
    ∷ refused_by 10 5 layout_a twice
    -- 15
    ∷ refused_by 15 5 layout_a twice
    ∷ refused_by 15 5 layout_a (targets 65 0)
    ∷ refused_by 15 5 layout_a (usable_at 65535 70 ∷ [])
    -- 64 targets
    ∷ stays_at 5 layout_a (targets 64 65471)
    -- 16
    ∷ refused_by 16 highest layout_a three
    ∷ refused_by 16 5 layout_a (used_up 0 ∷ usable_at 1 71 ∷ usable_at 3 73 ∷ usable_at 9 79 ∷ [])
    ∷ refused_by 16 5 nothing_init (usable_at 0 70 ∷ [])
    ∷ refused_by 16 5 before_bare three
    -- 17
    ∷ refused_by 17 highest (sixteen_to eof) (usable_at 0 1 ∷ [])
    -- 18
    ∷ refused_by 18 highest layout_a (usable_at 0 10 ∷ usable_at 1 71 ∷ usable_at 3 73 ∷ usable_at 9 79 ∷ [])
    -- 19
    ∷ refused_by 19 highest layout_a four
    -- no change
    ∷ stays_at highest layout_a four
    -- four stripes
    ∷ grows_to 6
    (init_of 1 0 (mega 2) (mega 1) 0 (object_of 0 10 ∷ [])
    ∷ init_of 2 (mega 2) (mega 16) (mega 1) 1 (object_of 1 11 ∷ object_of 2 12 ∷ object_of 3 13 ∷ [])
    ∷ init_of 3 (mega 16) eof (mega 4) 0 (object_of 0 70 ∷ object_of 1 71 ∷ object_of 3 73 ∷ object_of 9 79 ∷ [])
    ∷ [])
    four_after_all
    -- the highest number
    ∷ grows_to 6 (init_of 1 0 eof 65536 0 (object_of 0 (eof - 1) ∷ []) ∷ []) (used_up 0 ∷ [])
    -- an extension whose component is not init
    ∷ grows_to 6
    (init_of 1 0 (mega 8) (mega 1) 0 (object_of 0 70 ∷ object_of 1 71 ∷ []) ∷ extension_of 2 (mega 8) eof (mega 8) ∷ [])
    (usable_at 0 71 ∷ usable_at 1 72 ∷ usable_at 3 73 ∷ usable_at 9 79 ∷ [])
    -- a grant
    ∷ grows_to 6 (two_stripes (mega 8)) (used_up 5 ∷ used_up 6 ∷ usable_at 7 70 ∷ usable_at 8 70 ∷ [])
    -- a grant that does not reach the offset
    ∷ grows_towards 6
    (init_of 1 0 (mega 8) (mega 1) 0 (object_of 0 70 ∷ object_of 1 71 ∷ []) ∷ extension_of 2 (mega 8) eof (mega 8) ∷ [])
    (usable_at 0 71 ∷ usable_at 1 72 ∷ usable_at 3 73 ∷ usable_at 9 79 ∷ [])
    -- a grant up to EOF
    ∷ grows_to 6 (first_to eof ∷ []) (usable_at 5 70 ∷ [])
    -- spill-over onto an init component
    ∷ grows_to 6
    (spilled_to (mega 3) 5 2)
    four
    -- spill-over onto a bare component without an extension
    ∷ grows_to 6
    (first_to (mega 1)
    ∷ init_of 3 (mega 1) eof (mega 1) 0 (object_of 0 70 ∷ object_of 1 71 ∷ object_of 3 73 ∷ object_of 9 79 ∷ [])
    ∷ [])
    four_after_all
    -- spill-over that empties Y
    ∷ grows_to 6
    (first_to (mega 1) ∷ init_of 3 (mega 1) (mega 3) (mega 1) 0 (object_of 0 70 ∷ []) ∷ [])
    four_after_one
    -- spill-over that does not reach the offset
    ∷ grows_towards 6
    (spilled_to (mega 2) 0 70)
    four_after_one
    -- spill-over up to EOF
    ∷ grows_to 6 (first_to (mega 1) ∷ init_of 3 (mega 1) eof (mega 1) 0 (object_of 0 70 ∷ []) ∷ []) four_after_one
    -- a repeat that empties the extension: 16 components, and the new id is not that of the extension
    ∷ grows_to 6
    (inits 15 0 ++ (init_of 17 (15 * 65536) (16 * 65536) 65536 0 (object_of 0 70 ∷ []) ∷ []))
    four_after_one
    -- forced extension
    ∷ grows_to 6 (two_stripes (mega 8)) (usable_at 0 70 ∷ low_at 5 70 ∷ used_up 6 ∷ [])
    ∷ grows_to 6 (two_stripes (mega 8)) []
    ∷ []

-- Asking gives the answers.
pub more_growth : replies questions ≡ answers
unfolding replies_from
more_growth = refl
