-- `gateway::read_placed` meets its contract: the layout that is read has the components at the places found.
use Rattle.std.proofs.Common.{sym}
use Rattle.std.proofs.lemmas.Result.{err_from_is_err_and}
use Rattle.placed_run.specs.Found.{finds_number}
use Rattle.gateway.proofs.FoundLaws.{found_components}
use Rattle.gateway.proofs.read_placed.Goals as goal

pub returns-in_err-read-clause-number : goal.returns-in_err-read-clause-number
returns-in_err-read-clause-number c =
    let p = err_from_is_err_and c.from_residual.result c.from_residual.ensures.1 in
    rw (p.1, p.2) (finds_number c.in_err-read.ensures)

pub returns-clause-number : goal.returns-clause-number
returns-clause-number c = finds_number c.in_ok-read.ensures

pub returns-clause-placed : goal.returns-clause-placed
returns-clause-placed c = sym (found_components c.in_ok-read.ensures)
