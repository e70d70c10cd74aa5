-- `in_place::distinct`: `records` meets its contract: the object records are counted after the component.
use Rattle.std.proofs.Common.{◌∙◌, sym}
use Rattle.in_place.proofs.Records.{placed_count}
use Rattle.in_place.proofs.distinct.PlacedComponents.records.Goals as goal

pub returns : goal.returns
returns c = (
  c.record_count.ensures.0 ∙ sym (placed_count c.args.self.now.bytes.now c.args.self.now.places.now c.args.i
      c.requires),
  c.record_count.ensures.1,
)
