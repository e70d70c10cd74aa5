-- `page::decode::objects_at` meets its contract: all stores give what those that are left give to the array.
use mathlib.Core.Path.{sym, ◌∙◌}
use native.Mathlib.Nat.{add-zero, sub-zero}
use native.Mathlib.Numerals.{add-one}
use Rattle.layout.specs.Records.{pack_objects}
use Rattle.page.proofs.Turns.{objects_at_turn, objects_at_done}
use Rattle.page.proofs.decode.objects_at.Goals as goal

pub loop-i-init : goal.loop-i-init
loop-i-init c = rw (sub-zero, add-zero)

pub loop-i-preserved : goal.loop-i-preserved
loop-i-preserved c =
    let e = objects_at_turn c.args.s.now c.args.at c.args.n c.loop-i.i c.loop-i-test.true in
    c.loop-i.invariant ∙ rw (e, ← c.object_at.ensures, add-one)

pub returns : goal.returns
unfolding pack_objects
returns c =
    sym (c.loop-i.invariant ∙ rw (objects_at_done c.args.s.now c.args.at c.args.n c.loop-i.i c.loop-i-test.false))
