-- A list packed into the places of an array is read back as it was.
use Rattle.std.specs.Prelude.{ℕ, ◌≤◌, ◌≡◌, List, length, take, replicate}
use Rattle.std.proofs.Math.Seq.{length-sets}
use Rattle.lists.specs.Slices.{take_sets, take_sets_map}
use Rattle.layout.specs.declared.Object.{Object}
use Rattle.layout.specs.declared.Component.{Component}
use Rattle.layout.specs.Records.{no_object, no_component, no_neighbour, view, pack_objects, pack_components, packed}
use Rattle.layout.specs.Records.{neighbour_of, neighbours_of, id_of, ids_of, outline_of}

-- A component array always has 16 places.
pub pack_components_length : (cs : List Component) → length (pack_components cs) ≡ 16
unfolding pack_components
pack_components_length cs = length-sets (replicate 16 no_component) 0 cs

-- An object array always has 16 places.
pub pack_objects_length : (os : List Object) → length (pack_objects os) ≡ 16
unfolding pack_objects
pack_objects_length os = length-sets (replicate 16 no_object) 0 os

-- The components of a layout made from at most 16 components are those.
pub view_pack : (g : ℕ) (cs : List Component) → length cs ≤ 16 → view (packed g cs) ≡ cs
unfolding pack_components
view_pack g cs h = take_sets (replicate 16 no_component) cs h

-- The first places of an object array made from at most 16 object records are those.
pub records_pack : (os : List Object) → length os ≤ 16 → take (length os) (pack_objects os) ≡ os
unfolding pack_objects
records_pack os h = take_sets (replicate 16 no_object) os h

-- The first places of an outline are what it was made of.
pub outline_neighbours : (cs : List Component) → length cs ≤ 16 → take (length cs) (outline_of cs).neighbours ≡ neighbours_of cs
outline_neighbours cs h = take_sets_map neighbour_of (replicate 16 no_neighbour) cs h

pub outline_ids : (cs : List Component) → length cs ≤ 16 → take (length cs) (outline_of cs).ids ≡ ids_of cs
outline_ids cs h = take_sets_map id_of (replicate 16 0) cs h
