-- `free_table::raising::is_past` meets its contract: there is a last object, or none.
use Rattle.std.specs.Prelude.{◌-◌, eqb, length}
use Rattle.std.proofs.Common.{sym, ◌∙◌, arith, ne_eqb}
use Rattle.std.proofs.lemmas.Bool.{eqb-false}
use Rattle.std.proofs.lemmas.Option.{slice_get_within, get_or_from_slice_get, slice_get-get_or, none-some}
use Rattle.lists.specs.Bools.{bool_cases}
use Rattle.layout.specs.Records.{no_object}
use Rattle.free_table.specs.Raising.{past_last}
use Rattle.free_table.proofs.raising.is_past.Goals as goal

pub returns-in-Some : goal.returns-in-Some
unfolding past_last
returns-in-Some c =
    let os = c.args.objects.now in
    let e = sym c.in-Some.ensures.value in
    let h = slice_get_within os (length os - 1) c.in-Some.last.now e in
    rw (
      ne_eqb (length os) 0 (λ z. omega arith),
      get_or_from_slice_get os (length os - 1) c.in-Some.last.now no_object
          e,
    )

pub returns-in-None : goal.returns-in-None
unfolding past_last
returns-in-None c =
    let os = c.args.objects.now in
    bool_cases (eqb (length os) 0) (λ e. rw e)
    (λ e.
    let h = eqb-false (length os) 0 e in
    absurd (none-some _ (c.in-None.ensures.value ∙ slice_get-get_or os (length os - 1) no_object (omega arith))))
