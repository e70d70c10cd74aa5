-- `page::form::walk_page` meets its contract: one walk, and its end is the end of the bytes.
use Prim.Native.Nat.{◌≤◌}
use mathlib.Core.Path.{◌≡◌, sym, ◌∙◌}
use mathlib.Core.Bool.{false}
use native.Mathlib.Omega.{arith}
use lib.ListN.{length}
use borrow.Author.Tests.{lt-leb}
use Rattle.lists.specs.Bools.{clash}
use Rattle.page.specs.Form.{page_form}
use Rattle.page.proofs.Walking.{page_long, page_told, page_walked}
use Rattle.page.proofs.form.walk_page.Goals as goal

pub returns-then-s-le-MOST_BYTES : goal.returns-then-s-le-MOST_BYTES
returns-then-s-le-MOST_BYTES c =
    let s = c.args.s.now in
    let h : length s ≤ 512 = omega arith in (
      c.eq.ensures ∙ page_told s h _ _ c.walk.result c.walk.ensures,
      page_walked s h _ _ c.walk.result c.walk.ensures c.requires,
    )

pub returns-else-s-le-MOST_BYTES : goal.returns-else-s-le-MOST_BYTES
returns-else-s-le-MOST_BYTES c =
    let s = c.args.s.now in
    let e : page_form s ≡ false = page_long s (omega arith) in
    (lt-leb (length s) 512 (omega arith) ∙ sym e, λ f. clash f e)
