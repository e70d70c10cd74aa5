-- `collector::is_sound` meets its contract: the count is tested first, and the array holds 16 components.
use Rattle.std.proofs.lemmas.Grind.{common_steps}
use Rattle.std.specs.Prelude.{◌≡◌, ◌≤◌, true, length}
use borrow.Author.Tests.{lt-leb}
use Rattle.std.proofs.Common.{◌∙◌, arith, length-take-le, le-leb, eq-eqb}
use Rattle.std.proofs.lemmas.Bool.Decides.{nat_tests}
use Rattle.lists.specs.Bools.{clash}
use Rattle.refusals.specs.Refusals.{ok_number}
use Rattle.collector.specs.Collector.{gathered, counts_agree, collector_ok}
use Rattle.collector.proofs.is_sound.Goals as goal
use Rattle.collector.proofs.is_sound.Goals.{then-l-le16, else-l-le16}

pub returns-then-counts_agree : goal.returns-then-counts_agree
unfolding collector_ok
returns-then-counts_agree c =
    let l = c.args.c.layout in
    elim c.if-l-le16.branch [
      | then-l-le16 w ↦
          let few : l.count ≤ 16 = omega arith in
          let n : length (gathered c.args.c) ≡ l.count = length-take-le l.count l.components (omega arith) in
          let a : counts_agree c.args.c.pages l.complete l.count ≡ true = cc in
          rw (le-leb l.count 16 few, a, eq-eqb _ _ n, ← c.check_rules.ensures, ← ok_number) c.is_ok.ensures.value
      | else-l-le16 w ↦ clash c.if-counts_agree.true (w.value-is ∙ lt-leb l.count 16 (omega arith))
    ]

pub returns-else-counts_agree : goal.returns-else-counts_agree
unfolding collector_ok
returns-else-counts_agree c =
    elim c.if-l-le16.branch [
      | then-l-le16 w ↦ grind (arith, common_steps, nat_tests)
      | else-l-le16 w ↦ grind (arith, common_steps, nat_tests)
    ]
