-- `moorsickle::grow` meets its contract: the layout and the table afterwards are those of growth, or stay if it
-- refuses.
use Rattle.std.proofs.lemmas.Result.{err_from_is_err_and}
use Rattle.growth.specs.Answers as growth
use Rattle.moorsickle.proofs.grow.Goals as goal

pub returns-in_err-grown : goal.returns-in_err-grown
unfolding growth.grow_says
returns-in_err-grown c =
    let p = err_from_is_err_and c.from_residual.result c.from_residual.ensures.1 in
    let given = c.in_err-grown.ensures in
    rw (p.1, p.2) (given.answer, given.layout, given.table)

pub returns : goal.returns
unfolding growth.grow_says
returns c = let given = c.in_ok-grown.ensures in (given.answer, given.layout, given.table)
