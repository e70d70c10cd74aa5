-- `growth::outcomes::meets_layout` meets its contract.
use borrow.Author.Rules.{rules}
use borrow.Author.Tests.{tests}
use Rattle.std.proofs.lemmas.Iterator.{YieldsList-from_slice}
use Rattle.lists.specs.Counting.{elem}
use Rattle.lists.proofs.Iterators.{any_of-any}
use Rattle.layout.specs.declared.Object.{Object}
use Rattle.layout.specs.Records.{records_in, view}
use Rattle.layout.specs.Distinct.{same_object}
use Rattle.growth.proofs.outcomes.meets_layout.Goals as goal

pub returns : goal.returns
returns c =
    any_of-any (λ (o : Object). elem same_object o (records_in (view c.args.l.now))) _ _ _ c.any.ensures.ran
    (YieldsList-from_slice c.args.objects.now cc) (λ x b q k. search (rules, tests))
