-- `in_place::fields::targets_ok` meets its contract: the closure asks the record at each place.
use borrow.Author.Rules.{rules}
use borrow.Author.Tests.{tests}
use Rattle.std.proofs.Common.{◌+◌, ◌*◌, refl, ◌∙◌, arith}
use Rattle.std.proofs.lemmas.Iterator.{YieldsList-from_range}
use Rattle.lists.proofs.Iterators.{every-all}
use Rattle.layout.specs.Fields.{target_ok}
use Rattle.page.specs.Content.{object_at}
use Rattle.in_place.proofs.Targets.{targets_every}
use Rattle.in_place.proofs.fields.targets_ok.Goals as goal

pub returns : goal.returns
unfolding object_at
returns c =
    every-all (λ i. target_ok (object_at c.args.s.now (c.args.at + 16 * i))) _ _ _ c.all.ensures.ran
    (YieldsList-from_range 0 c.args.n c.args.n refl (omega arith))
    (λ x b q k. search (rules, tests))
    ∙ targets_every c.args.s.now c.args.at c.args.n
