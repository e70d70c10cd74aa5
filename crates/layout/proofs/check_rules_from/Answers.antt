-- `layout::check_rules_from` meets its contract: the rules are asked in rising order of their numbers.
use Rattle.std.specs.Prelude.{◌≡◌, length}
use Rattle.std.proofs.Common.{arith, sym, ◌∙◌, length-take-le}
use Rattle.std.proofs.lemmas.Bool.{not-true, not-false}
use Rattle.lists.specs.Tests.{length_ahead}
use Rattle.lists.proofs.Found.{some_found}
use Rattle.layout.specs.Records.{view}
use Rattle.layout.specs.PrefixLaws.{prefix_fields}
use Rattle.layout.specs.Rules.{rule_broken}
use Rattle.layout.proofs.check_rules_from.Goals as goal

pub field_fault-requires : goal.field_fault-requires
field_fault-requires c =
    let n : length (view c.args.l) ≡ c.args.l.count = length-take-le c.args.l.count c.args.l.components (omega arith) in
    rw c.components-components.ensures (omega arith, prefix_fields c.args.from (view c.args.l) c.requires.2)

pub returns-then-is_some : goal.returns-then-is_some
unfolding rule_broken
returns-then-is_some c =
    let f = some_found _ _ _ c.field_fault.ensures (length_ahead _ _) in
    let e = not-true _ (sym f ∙ sym c.is_some.ensures ∙ c.if-is_some.true) in
    rw (rw c.components-components.ensures at e)

pub check_later_rules-requires : goal.check_later_rules-requires
check_later_rules-requires c =
    let n : length (view c.args.l) ≡ c.args.l.count = length-take-le c.args.l.count c.args.l.components (omega arith) in
    rw c.components-components.ensures (omega arith, omega arith, c.requires.2)

pub returns : goal.returns
unfolding rule_broken
returns c =
    let f = some_found _ _ _ c.field_fault.ensures (length_ahead _ _) in
    let e = not-false _ (sym f ∙ sym c.is_some.ensures ∙ c.if-is_some.false) in
    rw (rw c.components-components.ensures at e) (rw c.components-components.ensures at c.check_later_rules.ensures)
