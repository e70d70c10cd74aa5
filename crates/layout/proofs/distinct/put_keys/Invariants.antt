-- `layout::distinct::put_keys` meets its contract: all stores give what those of the records from i on give to the row.
use Rattle.std.proofs.Common.{◌≡◌, length, drop}
use Rattle.std.proofs.lemmas.List.Edits.{sets}
use Rattle.layout.specs.Rows.{keys_of}
use Rattle.layout.proofs.distinct.put_keys.Given as goal

abbrev pub invariant-loop-i : goal.invariant-loop-i
invariant-loop-i l =
    (length l.keys ≡ length l.objects)
    × (sets l.initial.keys 0 (keys_of l.objects) ≡ sets l.keys l.i (keys_of (drop l.i l.objects)))
