-- `layout::distinct::differ` meets its contract: the row holds the object records, and the scan of them finds none that
-- equals one before it exactly if they differ.
use Rattle.std.specs.Prelude.{◌+◌, ◌≤◌, ◌≡◌, ◌++◌, length, take, drop, replicate}
use Rattle.std.proofs.Common.{arith, refl, ap, sym, ◌∙◌, length-append, take-append-drop}
use Rattle.std.proofs.lemmas.List.{length-replicate}
use Rattle.layout.specs.Records.{no_object, records_in}
use Rattle.layout.specs.PrefixLaws.{records_in_append}
use Rattle.layout.proofs.Scanned.{stored, scanned}
use Rattle.layout.proofs.distinct.differ.Goals as goal

pub object_repeat-requires : goal.object_repeat-requires
object_repeat-requires g c =
    let cs = g.C.Components.list c.args.components.now in
    let os = records_in cs in
    let p = c.put_all-all in
    let few : length os ≤ length (replicate g.row.N no_object) = rw length-replicate (omega arith) in
    let row : take p.result p.new.objects ≡ os = stored _ _ os p.result few p.ensures.0 p.ensures.2 in
    let t : length (take p.result p.new.objects) ≡ p.result = ap length row ∙ sym p.ensures.0 in
    let split : os ≡ records_in (take c.args.from cs) ++ records_in (drop c.args.from cs) =
    ap records_in (sym (take-append-drop c.args.from cs))
    ∙ records_in_append (take c.args.from cs) (drop c.args.from cs) in
    let n : length os ≡ length (records_in (take c.args.from cs)) + length (records_in (drop c.args.from cs)) =
    ap length split ∙ rw length-append refl in (
      rw length-replicate (omega (arith, t)),
      rw row (omega (arith, n, c.record_total-known.ensures), rw c.record_total-known.ensures.0 c.requires.4),
    )

pub returns : goal.returns
returns g c =
    let os = records_in (g.C.Components.list c.args.components.now) in
    let p = c.put_all-all in
    let few : length os ≤ length (replicate g.row.N no_object) = rw length-replicate (omega arith) in
    let row = stored _ _ os p.result few p.ensures.0 p.ensures.2 in
    scanned os _ c.object_repeat.result c.is_none.result row c.object_repeat.ensures.0 c.is_none.ensures
