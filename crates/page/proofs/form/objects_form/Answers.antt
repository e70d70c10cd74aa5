-- `page::form::objects_form` meets its contract: the closure asks the record at each place.
use borrow.Author.Rules.{rules}
use borrow.Author.Tests.{tests}
use mathlib.Core.Path.{◌∙◌, refl}
use Prim.Native.Nat.{◌+◌, ◌*◌}
use native.Mathlib.Omega.{arith}
use Rattle.std.proofs.lemmas.Iterator.{YieldsList-from_range}
use Rattle.lists.proofs.Iterators.{every-all}
use Rattle.page.specs.Form.{object_form}
use Rattle.page.proofs.Turns.{objects_form_every}
use Rattle.page.proofs.form.objects_form.Goals as goal

pub returns : goal.returns
returns c =
    every-all (λ i. object_form c.args.s.now (c.args.at + 16 * i)) _ _ _ c.all.ensures.ran
    (YieldsList-from_range 0 c.args.n c.args.n refl (omega arith))
    (λ x b q k. search (rules, tests))
    ∙ objects_form_every c.args.s.now c.args.at c.args.n
