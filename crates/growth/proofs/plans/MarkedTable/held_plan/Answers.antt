-- `growth::plans::MarkedTable::held_plan` meets its contract.
use Rattle.std.proofs.Common.{◌≡◌, Err, ap, sym, ◌∙◌}
use borrow.Author.Rules.{rules}
use Rattle.growth.specs.Plans.{plan_of}
use Rattle.growth.specs.PlanCases.{held_stays, held_chooses}
use Rattle.growth.proofs.plans.MarkedTable.held_plan.Goals as goal
use Rattle.growth.proofs.plans.MarkedTable.held_plan.Goals.{then-c-via-then-c, then-c-via-else-c+then-c-2}

pub returns-then-c : goal.returns-then-c
returns-then-c c =
    sym (held_stays c.args.self.mark c.args.self.table.now c.args.i c.args.c
    (elim c.then-c.branch [
      | then-c-via-then-c w ↦ rw w.if-c.true
      | then-c-via-else-c+then-c-2 w ↦ rw (w.if-c.false, w.if-c-2.true)
    ]))

pub returns-in_err-change : goal.returns-in_err-change
returns-in_err-change c =
    let r : c.from_residual.result ≡ Err c.in_err-change.field-0.0 = search rules in
    r ∙ ap plan_of (rw c.replacing.ensures at c.in_err-change.ensures)
    ∙ sym (held_chooses c.args.self.mark c.args.self.table.now c.args.i c.args.c (rw (c.if-c.false, c.if-c-2.false)))

pub returns : goal.returns
returns c =
    ap plan_of (rw c.replacing.ensures at c.in_ok-change.ensures)
    ∙ sym (held_chooses c.args.self.mark c.args.self.table.now c.args.i c.args.c (rw (c.if-c.false, c.if-c-2.false)))
