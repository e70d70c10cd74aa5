-- `mapping::cutting::part_count` meets its contract: an init component has a piece for each of its units in the
-- request.
use Rattle.std.proofs.Common.{◌≡◌, sym, arith, false}
use Rattle.std.proofs.lemmas.Bool.{not-true, not-false}
use Rattle.mapping.specs.CuttingLaws.{part_not_init, part_init}
use Rattle.mapping.proofs.cutting.part_count.Goals as goal

pub returns-then-not-c : goal.returns-then-not-c
returns-then-not-c c =
    let off : c.args.c.init ≡ false = not-true c.args.c.init c.if-not-c.true in
    (sym (part_not_init c.args.request.offset c.args.request.stop c.args.c off), omega arith)

pub unit_count-requires : goal.unit_count-requires
unit_count-requires c = (c.requires (not-false c.args.c.init c.if-not-c.false)).0

pub returns : goal.returns
returns c =
    let units = part_init c.args.request.offset c.args.request.stop c.args.c (not-false c.args.c.init c.if-not-c.false)
    in
    (rw (← units, ← c.part-part.ensures.0, ← c.part-part.ensures.1) c.unit_count.ensures.0, c.unit_count.ensures.1)
