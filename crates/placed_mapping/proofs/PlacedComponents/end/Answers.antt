-- `placed_mapping`: `end` meets its contract: the end is read from the component at the place.
use Rattle.page.specs.Content.{component_at}
use Rattle.placed_mapping.specs.PlacedLaws.{component_placed}
use Rattle.placed_mapping.proofs.PlacedComponents.end.Goals as goal

pub returns : goal.returns
unfolding component_at
returns c =
    rw (component_placed c.args.self.now.pages.now c.args.self.now.places.now c.args.i c.requires) c.read_at.ensures
