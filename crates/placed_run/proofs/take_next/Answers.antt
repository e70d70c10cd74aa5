-- `placed_run::take_next` meets its contract: the tests in their order, each by the law of its number.
use Rattle.std.specs.Prelude.{◌≡◌, ◌+◌, Some, Err, take}
use Rattle.std.proofs.Common.{refl, sym, ◌∙◌, arith, take-take}
use borrow.Author.Rules.{rules}
use Rattle.refusals.specs.declared.Refusal.TheVariants.{Form}
use Rattle.refusals.specs.Refusals.{number_of, number_pos}
use Rattle.placed_run.proofs.Taking.{Walk, Page, Joins, gives_1, gives_3, has_head, ends_by}
use Rattle.placed_run.proofs.Taking.{gives_4, gives_5, ends_within, within_front, within_back, gives_rule, gives_page}
use Rattle.placed_run.proofs.take_next.Goals as goal

pub returns-then-s-p : goal.returns-then-s-p
returns-then-s-p c = gives_1 c.args.s.now c.args.p.now c.args.places.now c.requires c.if-s-p.true

-- The page was walked over.
pub returns-in_err-bytes : goal.returns-in_err-bytes
returns-in_err-bytes c =
    let e : c.from_residual.result ≡ Err Form = search rules in
    let w : Walk c.args.s.now c.args.p.now c.args.places.now c.walk_next.new.places c.walk_next.result =
    record { known = c.requires; some = c.if-s-p.false; walks = c.walk_next.ensures } in
    rw e (gives_3 w c.in_err-bytes.ensures.ok_part)

pub head_next-head-requires : goal.head_next-head-requires
head_next-head-requires c =
    let w : Walk c.args.s.now c.args.p.now c.args.places.now c.walk_next.new.places (Some c.in_ok-bytes.bytes) =
    record {
      known = c.requires;
      some = c.if-s-p.false;
      walks =
          rw c.in_ok-bytes.ensures.ok_part at c.walk_next.ensures;
    } in
    has_head w

pub returns-then-not-is_next : goal.returns-then-not-is_next
returns-then-not-is_next c =
    let w : Walk c.args.s.now c.args.p.now c.args.places.now c.walk_next.new.places (Some c.in_ok-bytes.bytes) =
    record {
      known = c.requires;
      some = c.if-s-p.false;
      walks =
          rw c.in_ok-bytes.ensures.ok_part at c.walk_next.ensures;
    } in
    let g : Page c.args.s.now c.args.p.now c.args.places.now c.walk_next.new.places c.in_ok-bytes.bytes
    c.head_next-head.result = record { walk = w; is = c.head_next-head.ensures } in
    gives_4 g (sym c.is_next.ensures ∙ c.if-not-is_next.true)

pub returns-then-to-gt16 : goal.returns-then-to-gt16
returns-then-to-gt16 c =
    let w : Walk c.args.s.now c.args.p.now c.args.places.now c.walk_next.new.places (Some c.in_ok-bytes.bytes) =
    record {
      known = c.requires;
      some = c.if-s-p.false;
      walks =
          rw c.in_ok-bytes.ensures.ok_part at c.walk_next.ensures;
    } in
    let g : Page c.args.s.now c.args.p.now c.args.places.now c.walk_next.new.places c.in_ok-bytes.bytes
    c.head_next-head.result = record { walk = w; is = c.head_next-head.ensures } in
    gives_5 g (sym c.is_next.ensures ∙ c.if-not-is_next.false) c.if-to-gt16.true

pub check_new-requires : goal.check_new-requires
check_new-requires c =
    let p = c.args.p.now in
    let after = c.walk_next.new.places in
    let bytes = c.in_ok-bytes.bytes in
    let w : Walk c.args.s.now p c.args.places.now after (Some bytes) =
    record {
      known = c.requires;
      some = c.if-s-p.false;
      walks =
          rw c.in_ok-bytes.ensures.ok_part at c.walk_next.ensures;
    } in
    let h = c.head_next-head.result in
    let g : Page c.args.s.now p c.args.places.now after bytes h = record { walk = w; is = c.head_next-head.ensures } in
    let j : Joins c.args.s.now p c.args.places.now after bytes h =
    record { page = g; next = sym c.is_next.ensures ∙ c.if-not-is_next.false; few = c.if-to-gt16.false } in
    let k = ends_within j in
    rw (c.split_at.ensures.front, c.split_at.ensures.back) (
      within_front c.args.s.now after p.count (p.count + h.count) (omega arith) k,
      within_back c.args.s.now after p.count (p.count + h.count) (omega arith) k,
    )

pub returns-in_err-check_new : goal.returns-in_err-check_new
returns-in_err-check_new c =
    let p = c.args.p.now in
    let after = c.walk_next.new.places in
    let bytes = c.in_ok-bytes.bytes in
    let w : Walk c.args.s.now p c.args.places.now after (Some bytes) =
    record {
      known = c.requires;
      some = c.if-s-p.false;
      walks =
          rw c.in_ok-bytes.ensures.ok_part at c.walk_next.ensures;
    } in
    let h = c.head_next-head.result in
    let g : Page c.args.s.now p c.args.places.now after bytes h = record { walk = w; is = c.head_next-head.ensures } in
    let j : Joins c.args.s.now p c.args.places.now after bytes h =
    record { page = g; next = sym c.is_next.ensures ∙ c.if-not-is_next.false; few = c.if-to-gt16.false } in
    let front : c.split_at.result.0.now ≡ take p.count after =
    c.split_at.ensures.front ∙ take-take p.count (p.count + h.count) after (omega arith) in
    let e = c.in_err-check_new.field-0.0 in
    let r : c.from_residual-in_err-check_new.result ≡ Err e = search rules in
    let o = rw (front, c.split_at.ensures.back) at c.in_err-check_new.ensures in
    rw r (gives_rule j (number_of e) o (number_pos e))

pub overflow_add-p : goal.overflow_add-p
overflow_add-p c =
    let w : Walk c.args.s.now c.args.p.now c.args.places.now c.walk_next.new.places (Some c.in_ok-bytes.bytes) =
    record {
      known = c.requires;
      some = c.if-s-p.false;
      walks =
          rw c.in_ok-bytes.ensures.ok_part at c.walk_next.ensures;
    } in
    omega (arith, ends_by w)

pub returns : goal.returns
returns c =
    let p = c.args.p.now in
    let after = c.walk_next.new.places in
    let bytes = c.in_ok-bytes.bytes in
    let w : Walk c.args.s.now p c.args.places.now after (Some bytes) =
    record {
      known = c.requires;
      some = c.if-s-p.false;
      walks =
          rw c.in_ok-bytes.ensures.ok_part at c.walk_next.ensures;
    } in
    let h = c.head_next-head.result in
    let g : Page c.args.s.now p c.args.places.now after bytes h = record { walk = w; is = c.head_next-head.ensures } in
    let j : Joins c.args.s.now p c.args.places.now after bytes h =
    record { page = g; next = sym c.is_next.ensures ∙ c.if-not-is_next.false; few = c.if-to-gt16.false } in
    let front : c.split_at.result.0.now ≡ take p.count after =
    c.split_at.ensures.front ∙ take-take p.count (p.count + h.count) after (omega arith) in
    gives_page j 0 (rw (front, c.split_at.ensures.back) at c.in_ok-check_new.ensures) refl
