-- `layout::neighbours::begin_fault` meets its contract: of the tests from `from` on, i pass.
use Rattle.std.proofs.Common.{eq-eqb, ne_eqb}
use Rattle.lists.proofs.Found.{passes_start, passes_some, passes_more, passes_none}
use Rattle.layout.specs.Neighbours.{begins_at, end_of}
use Rattle.layout.proofs.neighbours.begin_fault.Goals as goal

pub loop-i-init : goal.loop-i-init
loop-i-init c = passes_start begins_at end_of 0 c.args.list.now c.args.from _ c.requires.0 c.requires.1
    c.end_before-at.ensures

pub returns-then-c-at : goal.returns-then-c-at
returns-then-c-at c =
    passes_some begins_at end_of 0 c.args.list.now c.args.from c.loop-i.i c.loop-i.at _ c.loop-i-test.true
    c.loop-i.invariant (ne_eqb _ _ c.if-c-at.true)

pub loop-i-preserved : goal.loop-i-preserved
loop-i-preserved c =
    passes_more begins_at end_of 0 c.args.list.now c.args.from c.loop-i.i c.loop-i.at _ c.loop-i-test.true
    c.loop-i.invariant (eq-eqb _ _ c.if-c-at.false)

pub returns : goal.returns
returns c =
    passes_none begins_at end_of 0 c.args.list.now c.args.from c.loop-i.i c.loop-i.at c.loop-i.invariant
    c.loop-i-test.false c.requires.0
