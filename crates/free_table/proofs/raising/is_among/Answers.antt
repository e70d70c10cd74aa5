-- `free_table::raising::is_among` meets its contract.
use borrow.Author.Rules.{rules}
use borrow.Author.Tests.{tests}
use Rattle.std.proofs.lemmas.Iterator.{YieldsList-from_slice}
use Rattle.lists.proofs.Iterators.{any_of-any}
use Rattle.layout.specs.Distinct.{same_object}
use Rattle.free_table.specs.Choosing.{next_object}
use Rattle.free_table.proofs.raising.is_among.Goals as goal

pub returns : goal.returns
unfolding same_object
returns c =
    any_of-any (same_object (next_object c.args.r)) _ _ _ c.any.ensures.ran
    (YieldsList-from_slice c.args.objects.now cc) (λ x b q k. search (rules, tests))
