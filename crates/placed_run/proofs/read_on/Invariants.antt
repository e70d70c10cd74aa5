-- `placed_run::read_on` meets its contract: the whole reading is the reading from here on.
use Rattle.std.proofs.Common.{◌≡◌}
use Rattle.placed_run.specs.Placing.{placed_run}
use Rattle.placed_run.specs.Progress.{placed_of, InRange}
use Rattle.placed_run.proofs.TurnLaws.{placed_from, turns_left}
use Rattle.placed_run.proofs.read_on.Given as goal

abbrev pub invariant-loop-p : goal.invariant-loop-p
invariant-loop-p l = InRange l.s l.p l.places × (placed_run l.s ≡ placed_from l.s (placed_of 0 l.p l.places))

abbrev pub decreases-loop-p : goal.decreases-loop-p
decreases-loop-p l = turns_left (placed_of 0 l.p l.places)
