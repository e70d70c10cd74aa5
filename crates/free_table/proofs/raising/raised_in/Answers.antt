-- `free_table::raising::raised_in` meets its contract: the next object is one of these, or not.
use Rattle.std.proofs.Common.{sym, ◌∙◌, arith}
use Rattle.layout.specs.Rows.{number_of}
use Rattle.free_table.specs.Choosing.{next_object}
use Rattle.free_table.specs.ScanLaws.{among_all, none_past, past_all}
use Rattle.free_table.proofs.raising.raised_in.Goals as goal
use Rattle.free_table.proofs.raising.raised_in.Goals.{then-is_past-via-then-is_past}
use Rattle.free_table.proofs.raising.raised_in.Goals.{then-is_past-via-else-is_past+then-not-is_among}

pub returns-then-is_past : goal.returns-then-is_past
returns-then-is_past c =
    elim c.then-is_past.branch [
      | then-is_past-via-then-is_past w ↦
          rw (none_past c.args.objects.now (next_object c.args.r)
          (past_all c.args.objects.now c.args.r.target (sym c.is_past.ensures ∙ w.if-is_past.true) c.requires.1))
      | then-is_past-via-else-is_past+then-not-is_among w ↦ rw (← w.is_among.ensures, w.if-not-is_among.true)
    ]

pub raised-requires : goal.raised-requires
raised-requires c =
    let e = sym c.is_among.ensures ∙ c.if-not-is_among.false in
    omega (arith, among_all number_of 18446744073709551615 c.args.objects.now c.requires.0 (next_object c.args.r) e)
