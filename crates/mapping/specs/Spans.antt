-- A component as cutting sees it, and what cutting takes as known of it.
use Rattle.std.specs.Prelude.{◌≤◌, ◌≡◌, List, [], ◌∷◌, map, true, false}
use Rattle.std.specs.Coded.{×_prop, →_prop, Unit-prop, le_prop}
use Rattle.layout.specs.declared.Component.{Component}
use Rattle.mapping.specs.declared.Span.{Span}

-- Its init flag, its id, its extent and its striping.
abbrev pub span_of : Component → Span
span_of c =
    record {
      init = c.init;
      id = c.id;
      begin = c.begin;
      end = c.end;
      stripe_count = c.stripe_count;
      stripe_size = c.stripe_size;
    }

-- What is said to be past the end of a list of them.
abbrev pub no_span : Span
no_span = record { init = false; id = 0; begin = 0; end = 0; stripe_count = 0; stripe_size = 0 }

-- A list of components as cutting sees it.
abbrev pub spans_of : List Component → List Span
spans_of cs = map span_of cs

-- An init component has a stripe size of at least 65,536 and at least one stripe, so both can be divided by. The rule
-- of the fields gives it.
abbrev pub Cuttable : Span → Type 0
Cuttable c = c.init ≡ true → (65536 ≤ c.stripe_size) × (1 ≤ c.stripe_count)

-- That of each of a list of components.
abbrev pub AllCuttable : List Span → Type 0
AllCuttable [] = Unit {0}
AllCuttable (c ∷ cs) = Cuttable c × AllCuttable cs

-- It has one proof at most, so a type may hold it.
pub AllCuttable-prop : (cs : List Span) → IsProp (AllCuttable cs)
AllCuttable-prop [] = Unit-prop
AllCuttable-prop (c ∷ cs) = ×_prop (→_prop (×_prop le_prop le_prop)) (AllCuttable-prop cs)
