-- `mapping::cutting::asked` meets its contract: the components are asked one after another.
use Rattle.std.proofs.Common.{◌∙◌, ◌<◌, length, sym, arith}
use Rattle.mapping.specs.Cutting.{cut_says}
use Rattle.mapping.proofs.CutSteps.{counted_none, not_init_found, count_cuttable, counted_next, counted_all}
use Rattle.mapping.proofs.cutting.asked.Goals as goal

pub loop-i-init : goal.loop-i-init
loop-i-init g c = counted_none (g.S.Spans.spans c.args.spans.now) (g.met.S.Spans.cuttable c.args.spans.now).1

pub returns-then-not_init_asked : goal.returns-then-not_init_asked
unfolding cut_says
returns-then-not_init_asked g c =
    let xs = g.S.Spans.spans c.args.spans.now in
    let h : c.loop-i.i < length xs = omega arith in
    let found = not_init_found xs c.loop-i.invariant h c.span-span.ensures
    (sym c.not_init_asked.ensures ∙ c.if-not_init_asked.true) in
    rw found

pub part_count-pieces-requires : goal.part_count-pieces-requires
part_count-pieces-requires g c =
    let xs = g.S.Spans.spans c.args.spans.now in
    count_cuttable xs c.loop-i.invariant (omega arith) c.span-span.ensures

pub overflow_add-pieces : goal.overflow_add-pieces
overflow_add-pieces g c = omega (arith, c.loop-i.invariant.few, (g.met.S.Spans.cuttable c.args.spans.now).0)

pub loop-i-preserved : goal.loop-i-preserved
loop-i-preserved g c =
    let xs = g.S.Spans.spans c.args.spans.now in
    counted_next xs c.loop-i.invariant (omega arith) c.span-span.ensures
    (sym c.not_init_asked.ensures ∙ c.if-not_init_asked.false)
    c.part_count-pieces.ensures.0 c.part_count-pieces.ensures.1

pub returns : goal.returns
unfolding cut_says
returns g c =
    let xs = g.S.Spans.spans c.args.spans.now in
    let k = counted_all xs c.loop-i.invariant (omega arith) in
    rw (k.0, k.1)
