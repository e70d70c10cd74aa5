-- `free_table::raise` meets its contract: the record at r is raised, or passed over.
use Rattle.std.specs.Prelude.{◌<◌, length, get_or}
use Rattle.std.proofs.Common.{inl, inr, sym, ◌∙◌, arith, add-one}
use Rattle.std.proofs.lemmas.List.{set-get_or}
use Rattle.free_table.specs.Table.{no_record, usable}
use Rattle.free_table.proofs.TableLaws.{usable_next}
use Rattle.free_table.proofs.ChoosingLaws.{raised_turn, passed_turn}
use Rattle.free_table.proofs.raise.Goals as goal
use Rattle.free_table.proofs.raise.Goals.{then-left-gt0+then-is_usable, else-left-gt0}
use Rattle.free_table.proofs.raise.Goals.{else-left-gt0-via-then-left-gt0+else-is_usable}
use Rattle.free_table.proofs.raise.Goals.{else-left-gt0-via-else-left-gt0}

pub raised-requires : goal.raised-requires
raised-requires c =
    usable_next c.args.mark (get_or c.loop-r.r-items c.loop-r.r-index no_record)
    (sym c.is_usable.ensures ∙ c.if-is_usable.true)

pub loop-r-preserved : goal.loop-r-preserved
loop-r-preserved c =
    let ok = usable c.args.mark in
    let i = c.loop-r.r-index in
    let rs = c.loop-r.r-items in
    let h : i < length rs = omega arith in
    elim c.if-left-gt0.branch [
      | then-left-gt0+then-is_usable w ↦
          rw (w.left-is, w.r-items-is, w.raised.ensures, add-one)
          (raised_turn ok c.loop-r.left i rs h w.if-left-gt0.true (sym w.is_usable.ensures ∙ w.if-is_usable.true)
          ∙ c.loop-r.invariant)
      | else-left-gt0 w ↦
          rw (w.left-is, w.r-items-is, add-one)
          (elim w.else-left-gt0.branch [
            | else-left-gt0-via-then-left-gt0+else-is_usable v ↦
                rw (v.r-items-is, set-get_or rs i no_record)
                (passed_turn ok c.loop-r.left i rs h (inr (sym v.is_usable.ensures ∙ v.if-is_usable.false))
                ∙ c.loop-r.invariant)
            | else-left-gt0-via-else-left-gt0 v ↦
                rw (v.r-items-is, set-get_or rs i no_record)
                (passed_turn ok c.loop-r.left i rs h (inl (omega arith)) ∙ c.loop-r.invariant)
          ])
    ]
