-- `paging::write_page` meets its contract: its numbers are those of the definitions, and head and components are one
-- run.
use mathlib.Core.Path.{ap, ◌∙◌}
use lib.ListN.{length}
use native.Mathlib.Omega.{arith}
use Rattle.std.proofs.Common.{Ok}
use Rattle.layout.specs.FactLaws.{valid_facts}
use Rattle.paging.specs.Paging.{out_answer, out_buffer}
use Rattle.paging.proofs.Places.{page_stored, page_at, no_page, size_is, size_le, too_short, long_enough, room_after}
use Rattle.paging.proofs.Places.{number_fits, page_is}
use Rattle.paging.proofs.write_page.Goals as goal

pub components-requires : goal.components-requires
components-requires c = (valid_facts c.args.l c.requires).few

pub returns-then-is_empty : goal.returns-then-is_empty
unfolding out_answer out_buffer
returns-then-is_empty c =
    let e = no_page c.args.l c.args.number _ _ _ (length c.args.buffer.now) c.components.ensures
    c.from_page-rest.ensures
    c.is_empty.ensures c.if-is_empty.true in
    (rw e, rw e)

pub page_size-bytes-requires : goal.page_size-bytes-requires
page_size-bytes-requires c =
    size_le _ _ _ _ (page_at c.args.l c.args.number _ _ _ _ _ _ c.components.ensures c.from_page-rest.ensures
    c.is_empty.ensures
    c.if-is_empty.false c.in_page.ensures.0 c.split_at.ensures.front c.split_at.ensures.back)

pub returns-then-buffer-bytes : goal.returns-then-buffer-bytes
unfolding out_answer out_buffer
returns-then-buffer-bytes c =
    let p = page_at c.args.l c.args.number _ _ _ _ _ _ c.components.ensures c.from_page-rest.ensures c.is_empty.ensures
    c.if-is_empty.false c.in_page.ensures.0 c.split_at.ensures.front c.split_at.ensures.back in
    let e = too_short _ _ _ _ p (length c.args.buffer.now) (omega arith) in
    (rw e, rw e)

pub overflow_cast-head : goal.overflow_cast-head
overflow_cast-head c =
    let p = page_at c.args.l c.args.number _ _ _ _ _ _ c.components.ensures c.from_page-rest.ensures c.is_empty.ensures
    c.if-is_empty.false c.in_page.ensures.0 c.split_at.ensures.front c.split_at.ensures.back in
    omega (arith, number_fits _ _ _ _ p (valid_facts c.args.l c.requires))

pub put_components-requires : goal.put_components-requires
put_components-requires c =
    let p = page_at c.args.l c.args.number _ _ _ _ _ _ c.components.ensures c.from_page-rest.ensures c.is_empty.ensures
    c.if-is_empty.false c.in_page.ensures.0 c.split_at.ensures.front c.split_at.ensures.back in
    omega (arith, room_after _ _ _ _ p)

pub returns : goal.returns
unfolding out_answer out_buffer
returns c =
    let p = page_at c.args.l c.args.number _ _ _ _ _ _ c.components.ensures c.from_page-rest.ensures c.is_empty.ensures
    c.if-is_empty.false c.in_page.ensures.0 c.split_at.ensures.front c.split_at.ensures.back in
    let e = long_enough _ _ _ _ p (length c.args.buffer.now) (omega arith) in (
      rw e (ap Ok (c.page_size-bytes.ensures ∙ size_is _ _ _ _ p)),
      rw (e, ← page_is _ _ _ _ p c.is_empty-2.result c.is_empty-2.ensures)
          (page_stored _ _ _ _ _ c.write.ensures c.put_components.ensures),
    )
