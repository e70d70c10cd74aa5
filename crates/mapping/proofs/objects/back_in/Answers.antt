-- `mapping::objects::back_in` meets its contract: the answer is by the first component that has the object, which is
-- init.
use Rattle.std.proofs.Common.{◌∙◌, ◌≤◌, length, sym, arith}
use Rattle.mapping.specs.Back.{back_says, owner_of}
use Rattle.mapping.proofs.Owned.{not_owned, later, owner_init, owned}
use Rattle.mapping.proofs.objects.back_in.Goals as goal

pub loop-i-preserved : goal.loop-i-preserved
loop-i-preserved g c =
    let cs = g.C.Components.list c.args.components.now in
    let v = g.met.C.Components.valid c.args.components.now in
    later cs v c.args.object c.args.byte c.loop-i.i (omega arith) c.loop-i.invariant
    (sym c.stripe.ensures ∙ c.in_default.is)

pub byte_within-requires : goal.byte_within-requires
byte_within-requires g c =
    let cs = g.C.Components.list c.args.components.now in
    let v = g.met.C.Components.valid c.args.components.now in
    let init = owner_init cs v c.args.object c.args.byte c.loop-i.i (omega arith) c.loop-i.invariant c.in-Some.stripe
    (sym c.stripe.ensures ∙ c.in-Some.is) in
    rw c.span.ensures (init.striped.size.nonzero, init.striped.some)

pub returns-in-Some : goal.returns-in-Some
unfolding back_says
returns-in-Some g c =
    let cs = g.C.Components.list c.args.components.now in
    let v = g.met.C.Components.valid c.args.components.now in
    (rw c.span.ensures at c.byte_within.ensures)
    ∙ owned cs v c.args.object c.args.byte c.loop-i.i (omega arith) c.loop-i.invariant c.in-Some.stripe
    (sym c.stripe.ensures ∙ c.in-Some.is)

pub returns : goal.returns
unfolding back_says
returns g c =
    let cs = g.C.Components.list c.args.components.now in
    let none : length cs ≤ owner_of c.args.object cs = omega (arith, c.loop-i.invariant) in
    sym (not_owned cs (g.met.C.Components.valid c.args.components.now) c.args.object c.args.byte none)
