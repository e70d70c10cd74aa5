-- `layout::fields::first_target_ok` meets its contract: the first target is asked of the first object record.
use Rattle.std.proofs.Common.{◌≡◌}
use mir.Syntax.{w32}
use mir.Val.{to_z, of_z}
use borrow.Author.Rules.{rules}
use borrow.Author.Tests.{tests}
use Rattle.layout.specs.Records.{records_of}
use Rattle.layout.proofs.FirstTarget.{first_if}
use Rattle.layout.specs.Fields.{first_target_ok}
use Rattle.layout.proofs.fields.first_target_ok.Goals as goal

pub returns-then-not-c : goal.returns-then-not-c
unfolding first_target_ok
returns-then-not-c c =
    let e : to_z w32 (of_z w32 c.args.c.first_target) ≡ c.args.c.first_target = search rules in
    rw (c.if-not-c.true, ← e) c.is_minus_one.ensures

pub returns : goal.returns
returns c =
    let a = c.args.c in
    first_if a.init a.first_target (records_of a) c.is_some_and.result c.if-not-c.false
    (λ n. search (rules, tests))
    (λ o s. search (rules, tests))
