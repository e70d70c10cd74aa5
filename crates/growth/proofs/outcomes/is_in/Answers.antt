-- `growth::outcomes::is_in` meets its contract.
use borrow.Author.Rules.{rules}
use borrow.Author.Tests.{tests}
use Rattle.std.proofs.lemmas.Iterator.{YieldsList-from_slice}
use Rattle.lists.proofs.Iterators.{any_of-any}
use Rattle.layout.specs.Distinct.{same_object}
use Rattle.growth.proofs.outcomes.is_in.Goals as goal

pub returns : goal.returns
unfolding same_object
returns c =
    rw (← c.objects.ensures)
    (any_of-any (same_object c.args.o) _ _ _ c.any.ensures.ran (YieldsList-from_slice c.objects.result.now cc)
    (λ x b q k. search (rules, tests)))
