-- `collector::take_walked` meets its contract: the definition's tests in their order.
use Prim.Native.Nat.{◌<◌}
use native.Mathlib.Omega.{arith}
use Rattle.std.proofs.lemmas.Result.{err_from_is_err_and}
use Rattle.std.proofs.Common.{get_or-take, length-take}
use Rattle.page.specs.FormLaws.{length_components}
use Rattle.refusals.specs.Refusals.{number_of, number_pos}
use Rattle.collector.specs.Sound.{sound_facts}
use Rattle.collector.proofs.Next.{count_is, few_after, refused_unless_next, refused_over, known, refused_by, taken}
use Rattle.collector.proofs.take_walked.Goals as goal

pub returns-then-not-is_next : goal.returns-then-not-is_next
returns-then-not-is_next c =
    refused_unless_next c.args.c.now c.args.page.now c.args.places.now c.read-head.result c.requires.0 c.requires.2
    c.read-head.ensures (cc)

pub overflow_add-from : goal.overflow_add-from
overflow_add-from c =
    omega (
      arith,
      few_after c.args.c.now c.args.page.now c.args.places.now c.read-head.result c.requires.0 c.requires.2
          c.read-head.ensures,
    )

pub returns-then-from-n-gt16 : goal.returns-then-from-n-gt16
returns-then-from-n-gt16 c =
    refused_over c.args.c.now c.args.page.now c.args.places.now c.read-head.result c.requires.0 c.requires.2
    c.read-head.ensures (cc)
    (omega arith)

pub with_components-next-requires : goal.with_components-next-requires
with_components-next-requires c =
    let n = c.from-n.result in
    let l = length-take n c.args.places.now in
    let m = count_is c.args.page.now c.read-head.result c.read-head.ensures in (
      omega arith,
      λ i h.
          let k : i < n = omega arith in
          rw (get_or-take n c.args.places.now i 0 k) (c.requires.2.within i
          (omega (arith, length_components c.args.page.now))),
    )

pub check_rules_from-requires : goal.check_rules_from-requires
check_rules_from-requires c =
    known c.args.c.now c.args.page.now c.args.places.now c.read-head.result c.requires.0 c.requires.2
    c.read-head.ensures (cc)
    (omega arith) c.with_components-next.ensures.1 _ (rw c.from-n.ensures at c.with_components-next.ensures.0)
    c.requires.1

pub returns-in_err-check_rules_from : goal.returns-in_err-check_rules_from
returns-in_err-check_rules_from c =
    let p = err_from_is_err_and c.from_residual.result c.from_residual.ensures.1 in
    rw (p.1, p.2)
    (refused_by c.args.c.now c.args.page.now c.args.places.now c.read-head.result c.requires.0 c.requires.2
    c.read-head.ensures (cc)
    (omega arith) c.with_components-next.ensures.1 _ (rw c.from-n.ensures at c.with_components-next.ensures.0)
    (number_of c.in_err-check_rules_from.field-0.0) c.in_err-check_rules_from.ensures
    (number_pos c.in_err-check_rules_from.field-0.0))

pub overflow_add-c : goal.overflow_add-c
overflow_add-c c =
    let k = sound_facts c.args.c.now c.requires.0 in
    omega (arith, k.within, k.few)

pub returns-then-head : goal.returns-then-head
returns-then-head c =
    rw c.if-head.true at
    (taken c.args.c.now c.args.page.now c.args.places.now c.read-head.result c.requires.0 c.requires.2
    c.read-head.ensures (cc)
    (omega arith) c.with_components-next.ensures.1 _ (rw c.from-n.ensures at c.with_components-next.ensures.0)
    c.in_ok-check_rules_from.ensures)

pub returns-else-head : goal.returns-else-head
returns-else-head c =
    rw c.if-head.false at
    (taken c.args.c.now c.args.page.now c.args.places.now c.read-head.result c.requires.0 c.requires.2
    c.read-head.ensures (cc)
    (omega arith) c.with_components-next.ensures.1 _ (rw c.from-n.ensures at c.with_components-next.ensures.0)
    c.in_ok-check_rules_from.ensures)
