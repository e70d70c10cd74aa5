-- `free_table::scanning::targets_of` meets its contract: what all stores give is what the stores from i on give to the
-- array as it is.
use Rattle.std.proofs.Common.{◌≡◌, drop}
use Rattle.std.proofs.lemmas.List.Edits.{sets}
use Rattle.layout.specs.Rows.{targets_of}
use Rattle.free_table.proofs.scanning.targets_of.Given as goal

abbrev pub invariant-loop-i : goal.invariant-loop-i
invariant-loop-i l =
    sets l.initial.targets 0 (targets_of l.objects) ≡ sets l.targets l.i (targets_of (drop l.i l.objects))
