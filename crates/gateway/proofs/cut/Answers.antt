-- `gateway::cut` meets its contract: a refusal of the reading comes first; else `cut` writes the pieces by the
-- components at the places found, and their number is stored.
use Rattle.std.proofs.Common.{sym, ℕ, ◌∙◌, length}
use Rattle.std.proofs.lemmas.Result.{err_from_is_err_and}
use Rattle.mapping.specs.Cutting.{cut_refusal, cut_count, cut_in, cut_says}
use Rattle.gateway.specs.Host.{host_components, cut_number, pieces_after, count_after}
use Rattle.gateway.specs.LentAnswers.{given_stored, refused_kept}
use Rattle.gateway.proofs.HostLaws.{own_number, room_lent}
use Rattle.gateway.proofs.FoundLaws.{refused_by, read_answer}
use Rattle.gateway.proofs.cut.Goals as goal

pub returns-in_err-read_placed : goal.returns-in_err-read_placed
unfolding cut_number pieces_after count_after
returns-in_err-read_placed c =
    let p = err_from_is_err_and c.from_residual.result c.from_residual.ensures.1 in
    let f = refused_by _ c.in_err-read_placed.ensures.number in
    rw (p.1, p.2) (f.number _, f.lent _ _ _, f.lent _ _ _)

pub returns-in_err-count : goal.returns-in_err-count
unfolding cut_number pieces_after count_after cut_in cut_says
returns-in_err-count c =
    let p = err_from_is_err_and c.from_residual-in_err-count.result c.from_residual-in_err-count.ensures.1 in
    let read = c.in_ok-read_placed.ensures in
    let pages = c.args.pages.now in
    let refusal = cut_refusal c.args.offset c.args.length (length c.args.room.now) in
    let own = own_number pages (refusal (host_components pages)) (sym read.number) in
    let kept = refused_kept (λ (n : ℕ). n) c.args.count.now _ _ _
    (read_answer pages _ refusal (cut_count c.args.offset c.args.length) (sym read.number) read.placed
    c.in_err-count.ensures.0) in
    rw (p.1, p.2) (
      kept.0,
      rw (own, ← read.placed) (c.in_err-count.ensures.1 ∙ room_lent _ _ c.args.room.now),
      kept.1,
    )

pub returns : goal.returns
unfolding cut_number pieces_after count_after cut_in cut_says
returns c =
    let read = c.in_ok-read_placed.ensures in
    let pages = c.args.pages.now in
    let refusal = cut_refusal c.args.offset c.args.length (length c.args.room.now) in
    let own = own_number pages (refusal (host_components pages)) (sym read.number) in
    let stored = given_stored (λ (n : ℕ). n) c.args.count.now _ _ _
    (read_answer pages _ refusal (cut_count c.args.offset c.args.length) (sym read.number) read.placed
    c.in_ok-count.ensures.0) in (
      stored.0,
      rw (own, ← read.placed) (c.in_ok-count.ensures.1 ∙ room_lent _ _ c.args.room.now),
      stored.1,
    )
