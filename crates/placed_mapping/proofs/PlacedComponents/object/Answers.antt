-- `placed_mapping`: `object` meets its contract: the object record is the one after the component, for the stripe.
use Rattle.std.proofs.Common.{◌∙◌, get_or, sym, arith}
use Rattle.placed_mapping.specs.PlacedLaws.{component_placed, component_within}
use Rattle.placed_mapping.specs.FieldLaws.{record_placed, record_within}
use Rattle.placed_mapping.proofs.PlacedComponents.object.Goals as goal

pub object_at-requires : goal.object_at-requires
object_at-requires c =
    let s = c.args.self.now in
    let within = component_within s.pages.now s.places.now c.args.i c.requires.place s.valid in
    let stands = rw (component_placed s.pages.now s.places.now c.args.i c.requires.place) at c.requires.stripe in
    omega (arith, within, record_within s.pages.now (get_or s.places.now c.args.i 0) c.args.stripe stands)

pub returns : goal.returns
returns c =
    let s = c.args.self.now in
    let stands = rw (component_placed s.pages.now s.places.now c.args.i c.requires.place) at c.requires.stripe in
    rw (component_placed s.pages.now s.places.now c.args.i c.requires.place)
    (c.object_at.ensures ∙ sym (record_placed s.pages.now (get_or s.places.now c.args.i 0) c.args.stripe stands))
