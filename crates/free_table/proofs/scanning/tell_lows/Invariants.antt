-- `free_table::scanning::tell_lows` meets its contract: the flags are those by the targets before i.
use Rattle.std.proofs.Common.{◌≡◌, take}
use Rattle.free_table.specs.Scanning.{lows_after}
use Rattle.free_table.proofs.scanning.tell_lows.Given as goal

abbrev pub invariant-loop-i : goal.invariant-loop-i
invariant-loop-i l = l.low ≡ lows_after l.of l.below (take l.i l.targets) l.fn.low
