-- `paging::from_page` meets its contract: if no component is left for a page, none is left for a later one.
use mathlib.Core.Path.{◌≡◌, sym, ◌∙◌}
use lib.ListN.{length}
use borrow.Author.Tests.{tests}
use native.Mathlib.Omega.{arith}
use Rattle.std.proofs.Common.{add-one, rules}
use Rattle.std.proofs.lemmas.List.{take_rest}
use Rattle.paging.specs.PagingLaws.{next_page, none_later}
use Rattle.paging.proofs.from_page.Goals as goal

pub returns-then-is_empty : goal.returns-then-is_empty
returns-then-is_empty c =
    let none : length c.loop.rest.now ≡ 0 = search (rules, tests) in
    let later = none_later c.loop.counter c.args.number c.args.components.now (omega arith)
    (rw c.loop.invariant at none) in
    c.loop.invariant ∙ sym later

pub loop-preserved : goal.loop-preserved
loop-preserved c =
    take_rest c.loop.rest.now c.in_page.result
    ∙ rw (c.in_page.ensures.0, c.loop.invariant, add-one) (sym (next_page c.loop.counter c.args.components.now))
