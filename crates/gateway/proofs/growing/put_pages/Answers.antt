-- `gateway::growing::put_pages`: each turn stores a page after those that are stored; there is no page after the last.
use Rattle.std.proofs.Common.{◌≡◌, ◌≤◌, ◌+◌, ◌-◌, ◌∙◌, refl, sym, ap, arith, inl, length, length-append, take, drop}
use Rattle.std.proofs.Common.{length-take, length-drop}
use Rattle.std.proofs.lemmas.List.Edits.{sets}
use Rattle.std.proofs.Math.Seq.{length-sets}
use borrow.Rule.Slice.PartMut.{put_mid, put_same}
use Rattle.lists.specs.Slices.{sets_append}
use Rattle.paging.specs.Paging.{written_page}
use Rattle.gateway.specs.LentWords.{pages_from}
use Rattle.gateway.specs.PageRunLaws.{pages_start, pages_end, page_wrote, page_missing, part_back}
use Rattle.gateway.proofs.growing.put_pages.Goals as goal

pub loop-k-init : goal.loop-k-init
loop-k-init c =
    let e = pages_start c.args.l in
    (refl, omega (arith, ap length e, c.requires.1), ap (sets c.args.buffer.now 0) e)

pub overflow_add-p : goal.overflow_add-p
overflow_add-p c =
    let part = take (length c.loop-k.buffer - c.loop-k.p) (drop c.loop-k.p c.loop-k.buffer) in
    let w = page_wrote c.args.l c.loop-k.k c.loop-k-test.true part c.in-Ok.n c.in-Ok.ensures.0 in
    let both : length (pages_from c.args.l c.loop-k.k) ≡ c.in-Ok.n + length (pages_from c.args.l (c.loop-k.k + 1)) =
    omega (
      arith,
      ap length w.2,
      length-append (written_page c.args.l c.loop-k.k)
          (pages_from c.args.l (c.loop-k.k + 1)),
    ) in
    record { fits = omega arith }

pub loop-k-preserved : goal.loop-k-preserved
loop-k-preserved c =
    let part = take (length c.loop-k.buffer - c.loop-k.p) (drop c.loop-k.p c.loop-k.buffer) in
    let w = page_wrote c.args.l c.loop-k.k c.loop-k-test.true part c.in-Ok.n c.in-Ok.ensures.0 in
    let page = written_page c.args.l c.loop-k.k in
    let rest = pages_from c.args.l (c.loop-k.k + 1) in
    let both : length (pages_from c.args.l c.loop-k.k) ≡ c.in-Ok.n + length rest =
    omega (arith, ap length w.2, length-append page rest) in
    let stored = c.in-Ok.ensures.1 ∙ w.3 in
    let placed = part_back c.loop-k.buffer page c.loop-k.p (omega arith) in
    let whole = ap (put_mid c.loop-k.p (length c.loop-k.buffer - c.loop-k.p) c.loop-k.buffer) stored ∙ placed in (
      ap length whole ∙ length-sets c.loop-k.buffer c.loop-k.p page ∙ c.loop-k.invariant.0,
      omega arith,
      c.loop-k.invariant.2 ∙ rw (w.2, whole, w.0) (sets_append c.loop-k.buffer c.loop-k.p page rest),
    )

pub returns-after-loop-k : goal.returns-after-loop-k
returns-after-loop-k c = sym (rw (pages_end c.args.l c.loop-k.k c.loop-k-test.false) at c.loop-k.invariant.2)

pub returns-in_default : goal.returns-in_default
returns-in_default c =
    let part = take (length c.loop-k.buffer - c.loop-k.p) (drop c.loop-k.p c.loop-k.buffer) in
    let room : length (pages_from c.args.l c.loop-k.k) ≤ length part =
    omega (
      arith,
      length-take (length c.loop-k.buffer - c.loop-k.p) (drop c.loop-k.p c.loop-k.buffer),
      length-drop c.loop-k.p c.loop-k.buffer,
    ) in
    let m = page_missing c.args.l c.loop-k.k c.loop-k-test.true part _ (inl room) c.in_default.ensures.0 in
    let kept = ap (put_mid c.loop-k.p (length c.loop-k.buffer - c.loop-k.p) c.loop-k.buffer)
    (c.in_default.ensures.1 ∙ m.1) in
    kept ∙ put_same c.loop-k.p (length c.loop-k.buffer - c.loop-k.p) c.loop-k.buffer
    ∙ sym (rw m.0 at c.loop-k.invariant.2)
