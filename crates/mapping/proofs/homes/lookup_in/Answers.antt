-- `mapping::homes::lookup_in` meets its contract: the answer is by the first component that ends above the byte, which
-- holds it.
use Rattle.std.proofs.Common.{◌∙◌, sym, ap, arith}
use Rattle.std.proofs.lemmas.Bool.{not-true, not-false}
use Rattle.std.proofs.Math.Option.{some}
use Rattle.mapping.specs.Answers.{gives}
use Rattle.mapping.specs.Homes.{Home}
use Rattle.mapping.specs.Lookup.{lookup_says}
use Rattle.mapping.proofs.Found.{none_holds, not_init_holds, holder_init, init_holds}
use Rattle.mapping.proofs.homes.lookup_in.Goals as goal

pub returns-then-not-c : goal.returns-then-not-c
unfolding lookup_says
returns-then-not-c g c =
    let cs = g.C.Components.list c.args.components.now in
    let v = g.met.C.Components.valid c.args.components.now in
    sym (not_init_holds cs v c.args.offset c.loop-i.i (omega arith) c.loop-i.invariant
    (rw c.end.ensures at c.if-offset-end.true) c.span-c.ensures (not-true _ c.if-not-c.true))

pub home_in-requires : goal.home_in-requires
home_in-requires g c =
    let cs = g.C.Components.list c.args.components.now in
    let v = g.met.C.Components.valid c.args.components.now in
    holder_init cs v c.args.offset c.loop-i.i (omega arith) c.loop-i.invariant
    (rw c.end.ensures at c.if-offset-end.true) c.span-c.ensures (not-false _ c.if-not-c.false)

pub returns-then-offset-end : goal.returns-then-offset-end
unfolding lookup_says
returns-then-offset-end g c =
    let cs = g.C.Components.list c.args.components.now in
    let v = g.met.C.Components.valid c.args.components.now in
    ap (λ (x : Home). gives (some x)) c.home_in.ensures
    ∙ sym (init_holds cs v c.args.offset c.loop-i.i (omega arith) c.loop-i.invariant
    (rw c.end.ensures at c.if-offset-end.true) c.span-c.ensures (not-false _ c.if-not-c.false))

pub returns : goal.returns
unfolding lookup_says
returns g c =
    let cs = g.C.Components.list c.args.components.now in
    let v = g.met.C.Components.valid c.args.components.now in
    sym (none_holds cs v c.args.offset (omega (arith, c.loop-i.invariant)))
