-- `free_table::scanning::any_set` meets its contract.
use Rattle.std.specs.Prelude.{Bool}
use borrow.Author.Rules.{rules}
use borrow.Author.Tests.{tests}
use Rattle.std.proofs.lemmas.Iterator.{YieldsList-from_slice}
use Rattle.lists.proofs.Iterators.{any_of-any}
use Rattle.free_table.proofs.scanning.any_set.Goals as goal

pub returns : goal.returns
returns c =
    any_of-any (λ (b : Bool). b) _ _ _ c.any.ensures.ran (YieldsList-from_slice c.args.flags.now cc)
    (λ x b q k. search (rules, tests))
