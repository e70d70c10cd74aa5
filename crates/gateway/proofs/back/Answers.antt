-- `gateway::back` meets its contract: a refusal of the reading comes first; else what `back` says of the components
-- at the places found is stored.
use Rattle.std.proofs.Common.{sym, ℕ}
use Rattle.std.proofs.lemmas.Result.{err_from_is_err_and}
use Rattle.layout.specs.Rows.{object_of}
use Rattle.mapping.specs.Homes.{in_object}
use Rattle.mapping.specs.Back.{back_refusal, byte_of, back_in, back_says}
use Rattle.gateway.specs.Host.{back_number, offset_after}
use Rattle.gateway.specs.LentAnswers.{given_stored, refused_kept}
use Rattle.gateway.proofs.FoundLaws.{refused_by, read_answer}
use Rattle.gateway.proofs.back.Goals as goal

pub returns-in_err-placed : goal.returns-in_err-placed
unfolding back_number offset_after
returns-in_err-placed c =
    let p = err_from_is_err_and c.from_residual.result c.from_residual.ensures.1 in
    let f = refused_by _ c.in_err-placed.ensures.number in
    rw (p.1, p.2) (f.number _, f.lent _ _ _)

pub returns-in_err-offset : goal.returns-in_err-offset
unfolding back_number offset_after back_in back_says
returns-in_err-offset c =
    let p = err_from_is_err_and c.from_residual-in_err-offset.result c.from_residual-in_err-offset.ensures.1 in
    let home = in_object (object_of c.args.target c.args.number) c.args.byte in
    rw (p.1, p.2) (refused_kept (λ (n : ℕ). n) c.args.offset.now _ _ _
    (read_answer c.args.pages.now _ (back_refusal home) (byte_of home) (sym c.in_ok-placed.ensures.number)
    c.in_ok-placed.ensures.placed
    c.in_err-offset.ensures))

pub returns : goal.returns
unfolding back_number offset_after back_in back_says
returns c =
    let home = in_object (object_of c.args.target c.args.number) c.args.byte in
    given_stored (λ (n : ℕ). n) c.args.offset.now _ _ _
    (read_answer c.args.pages.now _ (back_refusal home) (byte_of home) (sym c.in_ok-placed.ensures.number)
    c.in_ok-placed.ensures.placed
    c.in_ok-offset.ensures)
