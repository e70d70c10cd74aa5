-- `layout::neighbours::last_fault` meets its contract: of the tests of the list, only the last can fail.
use Rattle.std.specs.Prelude.{◌≡◌, Some, None, true, false, not, ◌||◌, slice_get, length, ◌-◌}
use Rattle.std.proofs.Common.{◌∙◌}
use Rattle.layout.specs.Neighbours.{is_empty}
use Rattle.layout.proofs.Ends.{last_none, last_some}
use Rattle.layout.proofs.neighbours.last_fault.Goals as goal
use Rattle.layout.proofs.neighbours.last_fault.Goals.{then-more-via-then-more}
use Rattle.layout.proofs.neighbours.last_fault.Goals.{then-more-via-else-more+then-not-is_empty}

pub returns-in_err-last : goal.returns-in_err-last
returns-in_err-last c =
    let l = c.args.list.now in
    let h : None ≡ slice_get l (length l - 1) = rw c.in_err-last.was at c.last.ensures.value in
    c.from_residual.ensures ∙ last_none c.args.more l h

pub returns-then-more : goal.returns-then-more
returns-then-more c =
    let l = c.args.list.now in
    let x = c.in_ok-last.last.now in
    let h : Some x ≡ slice_get l (length l - 1) = rw c.in_ok-last.was at c.last.ensures.value in
    let t : (c.args.more || not (is_empty x.begin x.end)) ≡ true =
    elim c.then-more.branch [
      | then-more-via-then-more w ↦ rw w.if-more.true
      | then-more-via-else-more+then-not-is_empty w ↦ rw (w.if-more.false, ← w.is_empty.ensures, w.if-not-is_empty.true)
    ] in
    rw t at (last_some c.args.more x l h)

pub returns : goal.returns
returns c =
    let l = c.args.list.now in
    let x = c.in_ok-last.last.now in
    let h : Some x ≡ slice_get l (length l - 1) = rw c.in_ok-last.was at c.last.ensures.value in
    let t : (c.args.more || not (is_empty x.begin x.end)) ≡ false =
    rw (c.if-more.false, ← c.is_empty.ensures, c.if-not-is_empty.false) in
    rw t at (last_some c.args.more x l h)
