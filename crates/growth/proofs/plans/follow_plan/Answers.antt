-- `growth::plans::follow_plan` meets its contract: an extension follows, or not.
use Rattle.std.specs.Prelude.{◌≡◌, [], ◌∷◌, get_or, drop}
use Rattle.std.proofs.Common.{ap, sym, ◌∙◌, arith, drop_of_length-le}
use Rattle.std.proofs.lemmas.List.{drop_more}
use Rattle.layout.proofs.Unread.{unread}
use Rattle.growth.specs.Plans.{follow_plan}
use Rattle.growth.proofs.plans.follow_plan.Goals as goal

pub returns-in-empty : goal.returns-in-empty
unfolding follow_plan
returns-in-empty c =
    let none : c.args.after.now ≡ [] = drop_of_length-le c.args.after.now {i = 0} (omega arith) in
    c.replacing.ensures ∙ sym (ap (follow_plan c.args.j c.args.m) none)

pub returns-then-y : goal.returns-then-y
unfolding follow_plan
returns-then-y c =
    let some : c.args.after.now ≡ get_or c.args.after.now 0 unread ∷ drop 1 c.args.after.now =
    drop_more c.args.after.now 0 unread c.in-len1-up.len_at_least in
    c.granting.ensures ∙ sym (ap (follow_plan c.args.j c.args.m) some ∙ rw c.if-y.true)

pub returns-else-y : goal.returns-else-y
unfolding follow_plan
returns-else-y c =
    let some : c.args.after.now ≡ get_or c.args.after.now 0 unread ∷ drop 1 c.args.after.now =
    drop_more c.args.after.now 0 unread c.in-len1-up.len_at_least in
    c.replacing-else-y.ensures ∙ sym (ap (follow_plan c.args.j c.args.m) some ∙ rw c.if-y.false)
