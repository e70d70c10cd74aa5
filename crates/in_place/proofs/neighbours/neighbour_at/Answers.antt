-- `in_place::neighbours::neighbour_at` meets its contract: the fields are those of the component at the place.
use Rattle.page.specs.Content.{component_at}
use Rattle.in_place.proofs.neighbours.neighbour_at.Goals as goal

pub returns : goal.returns
unfolding component_at
returns c =
    rw (
      ← c.read_at-word.ensures,
      ← c.is_set.ensures,
      ← c.is_set-2.ensures,
      ← c.read_at.ensures,
      ← c.read_at-2.ensures,
    )
