-- `layout::outline_of` meets its contract: what all stores give is what the stores from i on give to the arrays as they
-- are.
use Rattle.std.proofs.Common.{◌≡◌, refl, sym, ◌∙◌, add-one, drop-cons, drop_of_length-le}
use Rattle.layout.specs.Records.{outline_of}
use Rattle.layout.proofs.Unread.{unread}
use Rattle.layout.proofs.outline_of.Goals as goal

pub loop-i-init : goal.loop-i-init
loop-i-init c = (refl, refl)

pub loop-i-preserved : goal.loop-i-preserved
loop-i-preserved c =
    let e = drop-cons c.args.components.now c.loop-i.i unread c.loop-i-test.true in
    (c.loop-i.invariant.0 ∙ rw (e, add-one, c.into.ensures), c.loop-i.invariant.1 ∙ rw (e, add-one))

pub returns : goal.returns
returns c =
    let cs = c.args.components.now in
    let e = drop_of_length-le cs {i = c.loop-i.i} c.loop-i-test.false in
    let x : c.loop-i.neighbours ≡ (outline_of cs).neighbours = sym (c.loop-i.invariant.0 ∙ rw e) in
    let y : c.loop-i.ids ≡ (outline_of cs).ids = sym (c.loop-i.invariant.1 ∙ rw e) in
    λ i. record { neighbours = x i; ids = y i }
