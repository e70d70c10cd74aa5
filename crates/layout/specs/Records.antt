-- What the records mean: the components of a layout, the object records of a component, and how a list is packed into the
-- places of an array. Places past a count mean nothing, and no rule looks at them.
use Rattle.std.specs.Prelude.{ℕ, List, [], ◌∷◌, ◌++◌, map, Bool, true, false, cond, pos, length, take, replicate}
use Rattle.std.proofs.lemmas.List.Edits.{sets}
use Rattle.layout.specs.declared.Object.{Object}
use Rattle.layout.specs.declared.Component.{Component}
use Rattle.layout.specs.declared.Neighbour.{Neighbour}
use Rattle.layout.specs.declared.Layout.{Layout}
use Rattle.layout.specs.declared.Outline.{Outline}

-- What is in the unused places of an object array.
abbrev pub no_object : Object
no_object = record { target = 0; number = 0 }

-- A blank component, with these in its object array.
abbrev pub blank_with : List Object → Component
blank_with os =
    record {
      init = false;
      extension = false;
      id = 0;
      stripe_count = 0;
      stripe_size = 0;
      first_target = pos 0;
      begin = 0;
      end = 0;
      extension_size = 0;
      objects = os;
    }

-- What is in the unused places of a component array.
abbrev pub no_component : Component
no_component = blank_with (replicate 16 no_object)

-- A component as the neighbour rules see it: its extent and its flags.
abbrev pub neighbour_of : Component → Neighbour
neighbour_of c = record { init = c.init; extension = c.extension; begin = c.begin; end = c.end }

-- A list of components as the neighbour rules see it.
abbrev pub neighbours_of : List Component → List Neighbour
neighbours_of cs = map neighbour_of cs

-- The id of a component.
abbrev pub id_of : Component → ℕ
id_of c = c.id

-- The ids of a list of components.
abbrev pub ids_of : List Component → List ℕ
ids_of cs = map id_of cs

-- The number of object records by the flag and the stripe count: "If init, as many object records as the stripe count follow".
abbrev pub count_of : Bool → ℕ → ℕ
count_of init count = cond init count 0

-- The number of object records that a component is to have.
abbrev pub record_count : Component → ℕ
record_count c = count_of c.init c.stripe_count

-- The object records of a component, in stripe order: the first places of its array. All rules read them through this.
abbrev pub records_of : Component → List Object
records_of c = take (record_count c) c.objects

-- The object records "anywhere in the layout", in the order of the components.
abbrev pub records_in : List Component → List Object
records_in [] = []
records_in (c ∷ cs) = records_of c ++ records_in cs

-- The components of a layout: the first places of its array, as many as its count.
abbrev pub view : Layout → List Component
view l = take l.count l.components

-- Object records packed into the 16 places of a component, the rest blank.
unfoldable pub pack_objects : List Object → List Object
pack_objects os = sets (replicate 16 no_object) 0 os

-- Components packed into the 16 places of a layout, the rest blank.
unfoldable pub pack_components : List Component → List Component
pack_components cs = sets (replicate 16 no_component) 0 cs

-- What is in the unused places of an outline.
abbrev pub no_neighbour : Neighbour
no_neighbour = record { init = false; extension = false; begin = 0; end = 0 }

-- What the rules beside those of the fields ask of at most 16 components, packed into 16 places.
abbrev pub outline_of : List Component → Outline
outline_of cs =
    record { neighbours = sets (replicate 16 no_neighbour) 0 (neighbours_of cs); ids = sets (replicate 16 0) 0 (ids_of cs) }

-- The layout of a generation and a list of at most 16 components. The flag says that it is complete: no pages are
-- outstanding.
abbrev pub packed_as : Bool → ℕ → List Component → Layout
packed_as complete g cs =
    record { generation = g; count = length cs; components = pack_components cs; complete = complete }

-- The complete layout of a generation and a list of at most 16 components.
abbrev pub packed : ℕ → List Component → Layout
packed g cs = packed_as true g cs

-- The blank layout, with no components: nothing was read, so it is not complete.
abbrev pub no_layout : Layout
no_layout = packed_as false 0 []
