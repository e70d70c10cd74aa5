-- `mapping::units::put_units`: what is known of the byte that the loop has come to, and what is written by then.
use Rattle.std.proofs.Common.{◌-◌}
use Rattle.mapping.proofs.UnitSteps.{Known, Written}
use Rattle.mapping.proofs.units.put_units.Given as goal

abbrev pub invariant-loop-left : goal.invariant-loop-left
invariant-loop-left l =
    Known l.c.stripe_size l.c.stripe_count l.a l.left l.stripe l.row l.byte
    × Written l.c.id l.c.stripe_size l.c.stripe_count l.from l.to l.at l.fn.room l.a l.w l.room

abbrev pub decreases-loop-left : goal.decreases-loop-left
decreases-loop-left l = l.to - l.a
