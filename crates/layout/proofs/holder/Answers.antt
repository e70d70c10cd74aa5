-- `layout::holder` meets its contract: in a valid layout the component that holds a byte is the first that ends above
-- it.
use Rattle.std.proofs.Common.{ap, ◌∙◌, sym, ltb, false, length, ◌≡◌, ℕ}
use borrow.Author.Rules.{rules}
use borrow.Author.Tests.{tests}
use Rattle.std.proofs.lemmas.Iterator.{YieldsList-from_slice}
use Rattle.lists.proofs.Iterators.{found-position}
use Rattle.lists.specs.Tests.{found}
use Rattle.layout.specs.declared.Component.{Component}
use Rattle.layout.specs.Records.{view}
use Rattle.layout.specs.FactLaws.{valid_facts}
use Rattle.layout.specs.HolderLaws.{holder_ends}
use Rattle.layout.proofs.holder.Goals as goal

pub components-requires : goal.components-requires
components-requires c = (valid_facts c.args.l c.requires).few

pub returns : goal.returns
returns c =
    let v = valid_facts c.args.l c.requires in
    let n : length (view c.args.l) ≡ c.args.l.count = v.whole in
    let p = found-position (λ (x : Component). ltb c.args.offset x.end) _ _ _ c.position.ensures.ran
    (YieldsList-from_slice c.components.result.now c.iter.ensures.rest) (λ x b q k. search (rules, tests)) in
    p ∙ rw (c.components.ensures, n) (ap (λ (i : ℕ). found i c.args.l.count)
    (sym (holder_ends false (view c.args.l) v.keeps.linked c.args.offset)))
