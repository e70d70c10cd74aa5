-- `layout::distinct::record_total` meets its contract: the records of the first i components are counted.
use Rattle.std.proofs.Common.{◌≡◌, refl, arith, length-append, append-nil}
use Rattle.lists.specs.Slices.{take_next}
use Rattle.layout.specs.Records.{no_component}
use Rattle.layout.specs.PrefixLaws.{records_in_append}
use Rattle.layout.proofs.distinct.record_total.Goals as goal

pub loop-i-init : goal.loop-i-init
loop-i-init g c = (omega arith, omega arith, refl)

pub loop-i-preserved : goal.loop-i-preserved
loop-i-preserved g c =
    let cs = g.C.Components.list c.args.components.now in
    let e = take_next cs c.loop-i.i no_component (omega arith) in (
      omega arith,
      omega (arith, c.records-total.ensures),
      rw (e, records_in_append, length-append, append-nil)
          (omega (arith, c.loop-i.invariant.2, c.records-total.ensures)),
    )

pub returns : goal.returns
returns g c =
    let e : c.loop-i.i ≡ c.args.to = omega arith in
    (rw e at c.loop-i.invariant.2, omega arith)
