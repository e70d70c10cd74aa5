-- `layout::distinct::objects_differ` meets its contract: fewer than two records differ, and the row is long enough for
-- the others.
use Rattle.std.proofs.Common.{◌≡◌, ◌∙◌, refl, sym, length, arith}
use Rattle.std.proofs.Math.Seq.{take-length}
use Rattle.layout.specs.Records.{records_in}
use Rattle.layout.specs.Distinct.{same_object}
use Rattle.layout.proofs.Scanned.{fresh_few}
use Rattle.layout.proofs.distinct.objects_differ.Goals as goal

pub returns-in-0-to-1 : goal.returns-in-0-to-1
returns-in-0-to-1 g c =
    let cs = g.C.Components.list c.args.components.now in
    let e : c.record_total.result ≡ length (records_in cs) = c.record_total.ensures.0
    ∙ rw (c.count.ensures, take-length) refl in
    sym (fresh_few same_object (records_in cs) (omega (arith, e)))
