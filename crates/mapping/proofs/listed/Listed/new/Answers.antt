-- `mapping::listed::Listed::new`: the components of a valid layout.
use Rattle.layout.specs.FactLaws.{valid_facts}
use Rattle.mapping.specs.Components.{valid_components}
use Rattle.mapping.proofs.listed.Listed.new.Goals as goal

pub components-requires : goal.components-requires
components-requires c = (valid_facts _ c.requires).few

pub invariant_of-result : goal.invariant_of-result
invariant_of-result c = record { valid = rw c.components.ensures (valid_components _ c.requires) }
