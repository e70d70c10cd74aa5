-- `gateway::growing::pages_length`: each turn adds the length of a page; there is no page after the last.
use Rattle.std.proofs.Common.{ap, arith, inr, ◌+◌, length, length-append, replicate}
use Rattle.paging.specs.Paging.{written_page}
use Rattle.gateway.specs.LentWords.{pages_from}
use Rattle.gateway.specs.PageRunLaws.{pages_start, pages_end, page_wrote, page_missing}
use Rattle.gateway.proofs.growing.pages_length.Goals as goal

pub loop-k-init : goal.loop-k-init
loop-k-init c = (omega arith, omega (arith, ap length (pages_start c.args.l)))

pub overflow_add-bytes : goal.overflow_add-bytes
overflow_add-bytes c =
    let w = page_wrote c.args.l c.loop-k.k c.loop-k-test.true (replicate 512 0) c.in-Ok.n c.in-Ok.ensures.0 in
    record { fits = omega arith }

pub loop-k-preserved : goal.loop-k-preserved
loop-k-preserved c =
    let w = page_wrote c.args.l c.loop-k.k c.loop-k-test.true (replicate 512 0) c.in-Ok.n c.in-Ok.ensures.0 in (
      omega arith,
      omega (
        arith,
        ap length w.2,
        length-append (written_page c.args.l c.loop-k.k)
            (pages_from c.args.l (c.loop-k.k + 1)),
      ),
    )

pub returns-after-loop-k : goal.returns-after-loop-k
returns-after-loop-k c = omega (arith, ap length (pages_end c.args.l c.loop-k.k c.loop-k-test.false))

pub returns-in_default : goal.returns-in_default
returns-in_default c =
    let m = page_missing c.args.l c.loop-k.k c.loop-k-test.true (replicate 512 0) _ (inr (omega arith))
    c.in_default.ensures.0 in
    omega (arith, ap length m.0)
