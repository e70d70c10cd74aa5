-- `layout::distinct::record_total` meets its contract: the records of the first i components are counted.
use Rattle.std.proofs.Common.{◌≡◌, ◌≤◌, ◌*◌, length, take}
use Rattle.layout.specs.Records.{records_in}
use Rattle.layout.proofs.distinct.record_total.Given as goal

abbrev pub invariant-loop-i : goal.invariant-loop-i
invariant-loop-i g l =
    (l.i ≤ l.to) × (l.total ≤ 16 * l.i) × (l.total ≡ length (records_in (take l.i (g.C.Components.list l.components))))
