-- `mapping::units::put_piece` meets its contract: its five stores are those of the five numbers, one after the other.
use native.Mathlib.Numerals.{add-one, add-two, add-three, add-four}
use native.Mathlib.Omega.{arith}
use lib.ListN.{length-set}
use Rattle.mapping.proofs.units.put_piece.Goals as goal

pub returns : goal.returns
returns c = rw (add-one, add-two, add-three, add-four)

pub bounds-room-at-2 : goal.bounds-room-at-2
bounds-room-at-2 c = simp length-set (omega arith)

pub bounds-room-at-3 : goal.bounds-room-at-3
bounds-room-at-3 c = simp length-set (omega arith)

pub bounds-room-at-4 : goal.bounds-room-at-4
bounds-room-at-4 c = simp length-set (omega arith)

pub bounds-room-at-5 : goal.bounds-room-at-5
bounds-room-at-5 c = simp length-set (omega arith)
