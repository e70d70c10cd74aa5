-- `paging::in_page` meets its contract: into the page goes what went in up to i, and what fits the room left from i on.
use mathlib.Core.Path.{sym, ◌∙◌}
use native.Mathlib.Omega.{arith}
use lib.ListN.{get_or}
use borrow.Author.Tests.{le-leb, lt-leb}
use Rattle.std.proofs.Common.{add-one, add-zero, drop-cons}
use Rattle.layout.proofs.Unread.{unread}
use Rattle.page.specs.Bytes.{size_of}
use Rattle.paging.proofs.in_page.Goals as goal

pub returns-then-room-size : goal.returns-then-room-size
returns-then-room-size c =
    let next = drop-cons c.args.components.now c.loop-i.i unread c.loop-i-test.true in
    let x = lt-leb (size_of (get_or c.args.components.now c.loop-i.i unread)) c.loop-i.room (omega arith) in
    (sym (c.loop-i.invariant ∙ rw (next, x) (add-zero c.loop-i.i)), omega arith)

pub loop-i-preserved : goal.loop-i-preserved
loop-i-preserved c =
    let next = drop-cons c.args.components.now c.loop-i.i unread c.loop-i-test.true in
    let x = le-leb (size_of (get_or c.args.components.now c.loop-i.i unread)) c.loop-i.room (omega arith) in
    c.loop-i.invariant ∙ rw (next, x, c.size_of-size.ensures.0, add-one) (omega arith)
