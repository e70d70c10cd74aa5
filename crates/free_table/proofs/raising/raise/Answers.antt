-- `free_table::raising::raise` meets its contract: the records before r are raised.
use Rattle.std.specs.Prelude.{◌≡◌, List, map, length, take}
use Rattle.std.proofs.Common.{arith, ◌∙◌}
use Rattle.std.proofs.Math.Seq.{take-length}
use Rattle.lists.specs.Slices.{first_next, first_all}
use Rattle.free_table.specs.declared.TargetRecord.{TargetRecord}
use Rattle.free_table.specs.Table.{no_record}
use Rattle.free_table.specs.ChosenFacts.{raised_in}
use Rattle.free_table.proofs.RaisedTable.{raised_all}
use Rattle.free_table.proofs.raising.raise.Goals as goal

pub loop-r-preserved : goal.loop-r-preserved
loop-r-preserved c =
    rw (c.raised_in.ensures, c.loop-r.invariant)
    (first_next (raised_in c.args.objects.now) (take c.records_raised-records.result c.args.table.now) c.loop-r.r-index
    no_record (omega arith))

pub returns : goal.returns
returns c =
    let os = c.args.objects.now in
    let f = raised_in os in
    let looked : List TargetRecord = take c.records_raised-records.result c.args.table.now in
    let all : c.loop-r.r-index ≡ length looked = omega arith in
    let e : c.loop-r.r-items ≡ map f looked = c.loop-r.invariant ∙ rw all (first_all f looked) in
    rw (e, c.records_raised-records.ensures) (rw take-length at (raised_all os (length os) c.args.table.now))
