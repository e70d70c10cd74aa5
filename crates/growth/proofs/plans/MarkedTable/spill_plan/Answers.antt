-- `growth::plans::MarkedTable::spill_plan` meets its contract.
use Rattle.std.proofs.Common.{sym, ◌∙◌}
use Rattle.growth.specs.PlanCases.{follow_count, spill_init, spill_chooses}
use Rattle.growth.proofs.plans.MarkedTable.spill_plan.Goals as goal

pub returns-then-next : goal.returns-then-next
returns-then-next c =
    rw (c.replacing.ensures, c.with_extent-m.ensures)
    (sym (spill_init c.args.self.mark c.args.self.table.now c.args.j c.args.x c.args.next c.args.after.now
    c.if-next.true))

pub choosing-requires : goal.choosing-requires
choosing-requires c =
    rw (c.follow_plan.ensures, follow_count, c.with_extent-m.ensures) c.requires.1

pub returns : goal.returns
returns c =
    c.choosing.ensures
    ∙ rw (c.follow_plan.ensures, c.with_extent-m.ensures)
    (sym (spill_chooses c.args.self.mark c.args.self.table.now c.args.j c.args.x c.args.next c.args.after.now
    c.if-next.false))
