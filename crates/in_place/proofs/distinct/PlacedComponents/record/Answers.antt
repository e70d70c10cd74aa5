-- `in_place::distinct`: `record` meets its contract: the object record is in its place after the component.
use Rattle.std.proofs.Common.{◌∙◌, sym, arith}
use Rattle.in_place.proofs.Records.{placed_record, record_within}
use Rattle.in_place.proofs.distinct.PlacedComponents.record.Goals as goal

pub object_at-requires : goal.object_at-requires
object_at-requires c =
    let s = c.args.self.now in
    record_within s.bytes.now s.places.now c.args.i c.requires.place c.args.j c.requires.record s.within

pub overflow_mul-j : goal.overflow_mul-j
overflow_mul-j c =
    let s = c.args.self.now in
    omega (arith, record_within s.bytes.now s.places.now c.args.i c.requires.place c.args.j c.requires.record s.within)

pub overflow_add-self-2 : goal.overflow_add-self-2
overflow_add-self-2 c =
    let s = c.args.self.now in
    omega (arith, record_within s.bytes.now s.places.now c.args.i c.requires.place c.args.j c.requires.record s.within)

pub returns : goal.returns
returns c =
    c.object_at.ensures ∙ sym (placed_record c.args.self.now.bytes.now c.args.self.now.places.now c.args.i
    c.requires.place c.args.j c.requires.record)
