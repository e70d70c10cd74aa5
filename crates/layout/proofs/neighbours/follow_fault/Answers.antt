-- `layout::neighbours::follow_fault` meets its contract: of the tests from `from` on, i pass.
use Rattle.std.proofs.Common.{sym, ◌∙◌, false}
use Rattle.lists.proofs.Found.{passes_start, passes_some, passes_more, passes_none}
use Rattle.layout.specs.Neighbours.{follows_ok, may_follow}
use Rattle.layout.proofs.neighbours.follow_fault.Goals as goal

pub loop-i-init : goal.loop-i-init
loop-i-init c = passes_start follows_ok may_follow false c.args.list.now c.args.from _ c.requires.0 c.requires.1
    c.may_before-may.ensures

pub returns-then-not-follows_ok : goal.returns-then-not-follows_ok
returns-then-not-follows_ok c =
    passes_some follows_ok may_follow false c.args.list.now c.args.from c.loop-i.i c.loop-i.may _ c.loop-i-test.true
    c.loop-i.invariant (sym c.follows_ok.ensures ∙ c.if-not-follows_ok.true)

pub loop-i-preserved : goal.loop-i-preserved
loop-i-preserved c =
    passes_more follows_ok may_follow false c.args.list.now c.args.from c.loop-i.i c.loop-i.may _ c.loop-i-test.true
    c.loop-i.invariant (sym c.follows_ok.ensures ∙ c.if-not-follows_ok.false)

pub returns : goal.returns
returns c =
    passes_none follows_ok may_follow false c.args.list.now c.args.from c.loop-i.i c.loop-i.may c.loop-i.invariant
    c.loop-i-test.false c.requires.0
