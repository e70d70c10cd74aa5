-- `placed_run::read` meets its contract: the reading has come to its end, and distinctness is asked of what was taken.
use Rattle.std.specs.Prelude.{◌≡◌, Err}
use Rattle.std.proofs.Common.{sym, ap}
use borrow.Author.Rules.{rules}
use Rattle.refusals.specs.Refusals.{number_in}
use Rattle.placed_run.proofs.FoundLaws.{finds_repeat, finds_refused, finds_more, finds}
use Rattle.placed_run.proofs.read.Goals as goal

pub returns-then-not-distinct : goal.returns-then-not-distinct
returns-then-not-distinct c =
    let r = c.read_on-end in
    finds_repeat c.args.s.now r.new.p r.new.places r.ensures.1 (number_in r.result) r.ensures.0
    (sym c.if-not-distinct.ensures)

pub returns-in_err-end : goal.returns-in_err-end
returns-in_err-end c =
    let r = c.read_on-end in
    let w : c.from_residual.result ≡ Err c.in_err-end.field-0.0 = search rules in
    rw w (finds_refused c.args.s.now r.new.p r.new.places r.ensures.1 (number_in r.result) r.ensures.0
    (sym c.if-not-distinct.ensures)
    c.in_err-end.field-0.0 (sym (ap number_in c.in_err-end.was)))

pub returns-then-p-s : goal.returns-then-p-s
returns-then-p-s c =
    let r = c.read_on-end in
    finds_more c.args.s.now r.new.p r.new.places r.ensures.1 (number_in r.result) r.ensures.0
    (sym c.if-not-distinct.ensures)
    (ap number_in c.in_ok-end.was) c.if-p-s.true

pub returns : goal.returns
returns c =
    let r = c.read_on-end in
    finds c.args.s.now r.new.p r.new.places r.ensures.1 (number_in r.result) r.ensures.0 (sym c.if-not-distinct.ensures)
    (ap number_in c.in_ok-end.was) c.if-p-s.false
