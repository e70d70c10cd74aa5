-- `mapping::cutting::put_part` meets its contract: the pieces of an init component are those of its units in the
-- request.
use Rattle.std.proofs.Common.{◌≡◌, arith}
use Rattle.std.proofs.lemmas.Bool.{not-false}
use Rattle.mapping.specs.Cutting.{part_count}
use Rattle.mapping.specs.UnitLaws.{unit_count_none}
use Rattle.mapping.specs.CuttingLaws.{part_init, part_none}
use Rattle.mapping.proofs.cutting.put_part.Goals as goal

pub returns-then-part : goal.returns-then-part
returns-then-part c =
    let units = part_init c.args.request.offset c.args.request.stop c.args.c (not-false c.args.c.init c.if-not-c.false)
    in
    let none : part_count c.args.request.offset c.args.request.stop c.args.c ≡ 0
    = rw (← units, ← c.part-part.ensures.0, ← c.part-part.ensures.1)
    (unit_count_none c.args.c.stripe_size _ _ c.if-part.true) in
    (part_none c.args.request.offset c.args.request.stop c.args.c c.args.room.now c.args.at none, omega arith)
