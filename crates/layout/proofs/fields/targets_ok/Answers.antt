-- `layout::fields::targets_ok` meets its contract: all object records pass the test.
use borrow.Author.Rules.{rules}
use borrow.Author.Tests.{tests}
use Rattle.std.proofs.lemmas.Iterator.{YieldsList-from_slice}
use Rattle.lists.proofs.Iterators.{every-all}
use Rattle.layout.specs.Fields.{target_ok}
use Rattle.layout.proofs.fields.targets_ok.Goals as goal

pub returns : goal.returns
returns c = every-all target_ok _ _ _ c.all.ensures.ran (YieldsList-from_slice c.args.objects.now c.iter.ensures.rest)
    (λ x b q k. search (rules, tests))
