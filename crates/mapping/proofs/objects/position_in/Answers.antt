-- `mapping::objects::position_in` meets its contract: `position` asks the object records one after another.
use borrow.Author.Rules.{rules}
use borrow.Author.Tests.{tests}
use Rattle.std.proofs.lemmas.Iterator.{YieldsList-from_slice}
use Rattle.lists.proofs.Iterators.{found-position}
use Rattle.layout.specs.Distinct.{same_object}
use Rattle.mapping.proofs.objects.position_in.Goals as goal

pub returns : goal.returns
unfolding same_object
returns c =
    found-position (same_object c.args.object) _ _ _ c.position.ensures.ran
    (YieldsList-from_slice c.args.objects.now c.iter.ensures.rest)
    (λ x b q k. search (rules, tests))
