-- `layout::distinct::id_fault` meets its contract: the first i ids pass their tests.
use Rattle.std.proofs.Common.{eqb, sym, ◌∙◌, take, get_or}
use Rattle.lists.proofs.Found.{fresh_start, fresh_fault, fresh_pass, fresh_end, list_any-elem, eqb_flip}
use Rattle.layout.proofs.distinct.id_fault.Goals as goal

pub loop-i-init : goal.loop-i-init
loop-i-init c = fresh_start eqb c.args.ids.now c.args.from c.requires.0 c.requires.1

pub returns-then-contains : goal.returns-then-contains
returns-then-contains c =
    let l = c.args.ids.now in
    let i = c.loop-i.i in
    fresh_fault eqb l i 0 c.loop-i-test.true c.loop-i.invariant (sym (list_any-elem eqb eqb_flip (get_or l i 0) (take i l)) ∙ sym c.contains.ensures.value ∙ c.if-contains.true)

pub loop-i-preserved : goal.loop-i-preserved
loop-i-preserved c =
    let l = c.args.ids.now in
    let i = c.loop-i.i in
    fresh_pass eqb l i 0 c.loop-i-test.true c.loop-i.invariant (sym (list_any-elem eqb eqb_flip (get_or l i 0) (take i l)) ∙ sym c.contains.ensures.value ∙ c.if-contains.false)

pub returns : goal.returns
returns c = fresh_end eqb c.args.ids.now c.loop-i.i c.loop-i.invariant c.loop-i-test.false
