-- `growth::plans::MarkedTable::repeat_plan` meets its contract: the change that is chosen for, or the grant.
use Rattle.std.proofs.Common.{◌∙◌}
use Rattle.growth.specs.Plans.{repeat_plan}
use Rattle.growth.proofs.plans.MarkedTable.repeat_plan.Goals as goal

pub returns : goal.returns
unfolding repeat_plan
returns c =
    c.unwrap_or.ensures
    ∙ rw (c.choosing.ensures, c.granting-repeat.ensures, c.granting-grant.ensures, c.repeat_base-base.ensures)
