-- `free_table::any_low` meets its contract.
use borrow.Author.Rules.{rules}
use borrow.Author.Tests.{tests}
use Rattle.std.proofs.lemmas.Iterator.{YieldsList-from_slice}
use Rattle.lists.proofs.Iterators.{any_of-any}
use Rattle.layout.specs.declared.Object.{Object}
use Rattle.free_table.specs.Table.{is_low}
use Rattle.free_table.proofs.any_low.Goals as goal

pub returns : goal.returns
returns c =
    any_of-any (λ (o : Object). is_low c.args.mark c.args.table.now o.target) _ _ _ c.any.ensures.ran
    (YieldsList-from_slice c.args.objects.now cc) (λ x b q k. search (rules, tests))
