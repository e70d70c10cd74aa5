-- Document 01's layouts A and B and the component of its one-page example, as components, and that they break no rule. If the
-- paper leaves an object open, one is chosen.
use Rattle.std.specs.Prelude.{ℕ, ◌*◌, ◌≡◌, refl, List, [], ◌∷◌, map, true, false, pos, negsuc, length}
use Rattle.layout.specs.declared.Object.{Object}
use Rattle.layout.specs.declared.Component.{Component}
use Rattle.layout.specs.Records.{pack_objects}
use Rattle.layout.specs.Rows.{object_of}
use Rattle.layout.specs.Fields.{nonzero_multiple, extension_ok, striped_ok, kind_ok, is_minus_one, is_target, first_target_ok, fields_ok}
use Rattle.layout.specs.Neighbours.{neighbours_hold}
use Rattle.layout.specs.Distinct.{same_object, distinct_hold}
use Rattle.layout.specs.Rules.{rule_broken}

-- "EOF is 2^64 - 1"
abbrev pub eof : ℕ
eof = 18446744073709551615

-- "M means 1,048,576."
abbrev pub mega : ℕ → ℕ
mega n = n * 1048576

-- An init component: its id, begin and end, stripe size, first target and object records.
unfoldable pub init_of : ℕ → ℕ → ℕ → ℕ → ℕ → List Object → Component
init_of id begin end size first os =
    record {
      init = true;
      extension = false;
      id = id;
      stripe_count = length os;
      stripe_size = size;
      first_target = pos first;
      begin = begin;
      end = end;
      extension_size = 0;
      objects = pack_objects os;
    }

-- A bare component: its id, begin and end, stripe count and stripe size.
unfoldable pub bare_of : ℕ → ℕ → ℕ → ℕ → ℕ → Component
bare_of id begin end count size =
    record {
      init = false;
      extension = false;
      id = id;
      stripe_count = count;
      stripe_size = size;
      first_target = negsuc 0;
      begin = begin;
      end = end;
      extension_size = 0;
      objects = pack_objects [];
    }

-- An extension: its id, begin and end, and extension size.
unfoldable pub extension_of : ℕ → ℕ → ℕ → ℕ → Component
extension_of id begin end size =
    record {
      init = false;
      extension = true;
      id = id;
      stripe_count = 0;
      stripe_size = 0;
      first_target = negsuc 0;
      begin = begin;
      end = end;
      extension_size = size;
      objects = pack_objects [];
    }

-- "Layout A: id 1 [0, 2M) 1 x 1M; id 2 [2M, 16M) 3 x 1M; both init; id 3 [16M, EOF) 4 x 4M, bare."
unfoldable pub layout_a : List Component
layout_a =
    init_of 1 0 (mega 2) (mega 1) 0 (object_of 0 10 ∷ [])
    ∷ init_of 2 (mega 2) (mega 16) (mega 1) 1 (object_of 1 11 ∷ object_of 2 12 ∷ object_of 3 13 ∷ [])
    ∷ bare_of 3 (mega 16) eof 4 (mega 4)
    ∷ []

-- "Layout B: the listing above, component 1 on target 0."
unfoldable pub layout_b : List Component
layout_b =
    init_of 1 0 (mega 16) (mega 1) 0 (object_of 0 10 ∷ [])
    ∷ extension_of 2 (mega 16) (mega 100) (mega 16)
    ∷ bare_of 3 (mega 100) (mega 100) 1 (mega 1)
    ∷ extension_of 4 (mega 100) eof (mega 24)
    ∷ []

-- "generation 5, one component of 64 KiB on target 2, object 7"
unfoldable pub one_page : List Component
one_page = init_of 1 0 65536 65536 2 (object_of 2 7 ∷ []) ∷ []

-- The number of the rule that a list which is written out breaks, with no pages outstanding.
unfoldable pub asked : List Component → ℕ
unfolding rule_broken fields_ok kind_ok extension_ok striped_ok nonzero_multiple first_target_ok is_target is_minus_one neighbours_hold distinct_hold same_object pack_objects init_of bare_of extension_of layout_a layout_b one_page
asked cs = rule_broken false cs

-- The three break none.
pub samples_kept : map asked (layout_a ∷ layout_b ∷ one_page ∷ []) ≡ 0 ∷ 0 ∷ 0 ∷ []
unfolding asked
samples_kept = refl
