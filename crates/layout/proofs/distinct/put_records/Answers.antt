-- `layout::distinct::put_records` meets its contract: what all stores give is what the stores from j on give to the row
-- as it is.
use Rattle.std.proofs.Common.{◌+◌, refl, sym, ◌∙◌, get_or, drop, arith, add-zero, drop_of_length-le}
use Rattle.std.proofs.Math.ListN.{length-set}
use Rattle.lists.specs.Slices.{drop_next, sets_next}
use Rattle.layout.specs.Records.{no_object, no_component, records_of}
use Rattle.layout.proofs.distinct.put_records.Goals as goal

pub loop-j-init : goal.loop-j-init
loop-j-init g c = (refl, rw add-zero)

pub loop-j-preserved : goal.loop-j-preserved
loop-j-preserved g c =
    let os = records_of (get_or (g.C.Components.list c.args.components.now) c.args.i no_component) in
    let e = drop_next os c.loop-j.j no_object (omega (arith, c.records-n.ensures)) in (
      length-set c.loop-j.objects (c.args.at + c.loop-j.j) c.record.result ∙ c.loop-j.invariant.0,
      c.loop-j.invariant.1 ∙ rw (e, ← c.record.ensures)
          (sets_next c.loop-j.objects c.args.at c.loop-j.j c.record.result (drop (c.loop-j.j + 1) os)),
    )

pub returns : goal.returns
returns g c =
    let os = records_of (get_or (g.C.Components.list c.args.components.now) c.args.i no_component) in
    let e = drop_of_length-le os {i = c.loop-j.j} (omega (arith, c.records-n.ensures)) in
    (omega (arith, c.records-n.ensures), omega (arith, c.records-n.ensures), sym (c.loop-j.invariant.1 ∙ rw e))
