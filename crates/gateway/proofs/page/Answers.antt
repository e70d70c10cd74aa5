-- `gateway::page` meets its contract: a refusal of the reading comes first; else `write_page` writes the page of the
-- layout that is read, and its number of bytes is stored.
use Rattle.std.proofs.Common.{◌∙◌, length}
use Rattle.std.proofs.lemmas.Result.{err_from_is_err_and}
use Rattle.paging.specs.Paging.{write_refusal}
use Rattle.gateway.specs.Host.{host_layout, page_number, buffer_after, written_after}
use Rattle.gateway.specs.LentAnswers.{page_stored, page_kept}
use Rattle.gateway.proofs.HostLaws.{host_valid, own_number, buffer_lent}
use Rattle.gateway.proofs.FoundLaws.{found_refused, found_read}
use Rattle.gateway.proofs.page.Goals as goal

pub returns-in_err-read : goal.returns-in_err-read
unfolding page_number buffer_after written_after
returns-in_err-read c =
    let p = err_from_is_err_and c.from_residual.result c.from_residual.ensures.1 in
    let f = found_refused c.in_err-read.ensures in
    rw (p.1, p.2) (f.number _, f.lent _ _ _, f.lent _ _ _)

pub write_page-requires : goal.write_page-requires
write_page-requires c =
    rw c.layout_found-l.ensures (host_valid c.args.pages.now (found_read c.in_ok-read.ensures))

pub returns-in_err-written : goal.returns-in_err-written
unfolding page_number buffer_after written_after
returns-in_err-written c =
    let p = err_from_is_err_and c.from_residual-in_err-written.result c.from_residual-in_err-written.ensures.1 in
    let l = c.layout_found-l.ensures in
    let number = write_refusal (host_layout c.args.pages.now) c.args.number (length c.args.buffer.now) in
    let own = own_number c.args.pages.now number (found_read c.in_ok-read.ensures) in
    let answer = rw l at c.in_err-written.ensures.0 in
    let after = rw l at c.in_err-written.ensures.1 in
    let kept = page_kept c.args.written.now _ _ _ answer in
    rw (p.1, p.2, own) (kept.0, after ∙ buffer_lent _ _ c.args.buffer.now, kept.1)

pub returns : goal.returns
unfolding page_number buffer_after written_after
returns c =
    let l = c.layout_found-l.ensures in
    let number = write_refusal (host_layout c.args.pages.now) c.args.number (length c.args.buffer.now) in
    let own = own_number c.args.pages.now number (found_read c.in_ok-read.ensures) in
    let answer = rw l at c.in_ok-written.ensures.0 in
    let after = rw l at c.in_ok-written.ensures.1 in
    let stored = page_stored c.args.written.now _ _ _ answer in
    rw own (stored.0, after ∙ buffer_lent _ _ c.args.buffer.now, stored.1)
