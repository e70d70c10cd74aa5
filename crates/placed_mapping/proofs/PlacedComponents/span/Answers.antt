-- `placed_mapping`: `span` meets its contract: the fields are read from the component at the place.
use borrow.Author.Rules.{rules}
use Rattle.page.specs.Content.{component_at}
use Rattle.placed_mapping.specs.PlacedLaws.{component_placed}
use Rattle.placed_mapping.proofs.PlacedComponents.span.Goals as goal

pub returns : goal.returns
unfolding component_at
returns c =
    rw (component_placed c.args.self.now.pages.now c.args.self.now.places.now c.args.i c.requires) (search rules)
