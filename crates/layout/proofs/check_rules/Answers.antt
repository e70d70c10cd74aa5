-- `layout::check_rules` meets its contract: no component is known, and the empty list breaks no rule.
use mathlib.Core.Path.{refl}
use Rattle.layout.specs.Neighbours.{neighbours_hold}
use Rattle.layout.specs.Distinct.{distinct_hold}
use Rattle.layout.specs.Rules.{rule_broken}
use borrow.Author.Rules.{rules}
use Rattle.layout.proofs.check_rules.Goals as goal

pub check_rules_from-requires : goal.check_rules_from-requires
unfolding rule_broken neighbours_hold distinct_hold
check_rules_from-requires c = (search rules, search rules, refl)
