-- `layout::fields::field_fault` meets its contract: the position is found among the components that are not known.
use Rattle.std.specs.Prelude.{◌≡◌, None, not, drop}
use Rattle.std.proofs.Common.{◌∙◌, sym}
use borrow.Author.Rules.{rules}
use borrow.Author.Tests.{tests}
use Rattle.std.proofs.lemmas.Iterator.{YieldsList-from_slice}
use Rattle.lists.specs.Slices.{part_rest}
use Rattle.lists.proofs.Iterators.{found-position}
use Rattle.lists.proofs.Found.{each_some, each_none}
use Rattle.layout.specs.declared.Component.{Component}
use Rattle.layout.specs.Fields.{fields_ok}
use Rattle.layout.proofs.fields.field_fault.Goals as goal

pub returns : goal.returns
returns c =
    let cs = c.args.components.now in
    let k = c.args.from in
    let p = found-position (λ (x : Component). not (fields_ok x)) _ _ _ c.position.ensures.ran
    (YieldsList-from_slice (drop k cs) (c.iter.ensures.rest ∙ part_rest cs k)) (λ x b q k. search (rules, tests)) in
    each_some fields_ok cs k c.requires.0 c.requires.1 _ (sym c.in_ok-i.was ∙ p)

pub returns-in_err-i : goal.returns-in_err-i
returns-in_err-i c =
    let cs = c.args.components.now in
    let k = c.args.from in
    let p = found-position (λ (x : Component). not (fields_ok x)) _ _ _ c.position.ensures.ran
    (YieldsList-from_slice (drop k cs) (c.iter.ensures.rest ∙ part_rest cs k)) (λ x b q k. search (rules, tests)) in
    let n : c.from_residual.result ≡ None = search rules in
    n ∙ each_none fields_ok cs k c.requires.0 c.requires.1 (sym c.in_err-i.was ∙ p)
