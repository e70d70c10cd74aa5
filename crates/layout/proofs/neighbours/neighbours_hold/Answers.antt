-- `layout::neighbours::neighbours_hold` meets its contract: each part finds no fault exactly if its tests pass.
use Rattle.std.proofs.Common.{arith}
use Rattle.std.proofs.lemmas.Grind.{common_steps}
use Rattle.lists.specs.Tests.{length_along, length_ahead}
use Rattle.lists.proofs.Found.{none_found}
use Rattle.layout.specs.Neighbours.{begin_tests, last_tests, neighbours_hold}
use Rattle.layout.proofs.neighbours.neighbours_hold.Goals as goal

pub returns-then-is_none-3 : goal.returns-then-is_none-3
unfolding neighbours_hold
returns-then-is_none-3 c =
    let b = none_found (begin_tests c.args.list.now) _ _ c.begin_fault.ensures (length_along _ _ _ c.args.list.now) in
    let l = none_found (last_tests c.args.more c.args.list.now) _ _ c.last_fault.ensures
    (length_ahead _ c.args.list.now) in
    grind (arith, common_steps, none_found, length_along, length_ahead)

pub returns-else-is_none-3 : goal.returns-else-is_none-3
unfolding neighbours_hold
returns-else-is_none-3 c =
    let b = none_found (begin_tests c.args.list.now) _ _ c.begin_fault.ensures (length_along _ _ _ c.args.list.now) in
    grind (arith, common_steps, none_found, length_along, length_ahead)
