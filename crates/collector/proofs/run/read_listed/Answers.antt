-- `collector::run::read_listed` meets its contract: the whole reading is the reading from the collector on, of the
-- bytes that are left.
use Prim.Native.Nat.{◌<◌, ◌-◌}
use mathlib.Core.Path.{◌≡◌, sym, ap, subst, ◌∙◌}
use native.Mathlib.Omega.{arith}
use borrow.Author.Rules.{rules}
use Rattle.std.specs.Result.{MatchResult}
use Rattle.std.proofs.Common.{Err}
use Rattle.std.proofs.lemmas.Result.{err_from_is_err_and, MatchResult-weaker}
use Rattle.refusals.specs.Refusals.{number_of}
use Rattle.collector.specs.declared.Collector.{Collector}
use Rattle.collector.specs.Runs.{listed_cut}
use Rattle.collector.specs.Reads.{next_answer}
use Rattle.collector.specs.Sound.{facts_sound}
use Rattle.collector.proofs.RunLaws.{Held, new_held, read_start, read_from, read_unless, ends_refused, goes_on_held}
use Rattle.collector.proofs.RunLaws.{goes_on_pages, goes_on, refused_page, given_page, given_cut}
use Rattle.collector.proofs.run.read_listed.Goals as goal

pub loop-c-init : goal.loop-c-init
loop-c-init c =
    record {
      held = subst Held (sym c.new_collector-c.ensures) new_held;
      read = read_start listed_cut c.args.s.now ∙ ap (λ (x : Collector). read_from listed_cut x c.args.s.now)
          (sym c.new_collector-c.ensures);
    }

pub returns-in_err-bytes : goal.returns-in_err-bytes
returns-in_err-bytes c =
    let m : MatchResult c.next_page.result (λ y. ⊥) (λ e. c.in_err-bytes.field-0.0
    ≡ record { refusal = e; page = c.loop-c.c.pages }) =
    MatchResult-weaker c.next_page.result c.in_err-bytes.ensures.cases (λ y q. absurd (cc)) (λ e q. search rules) in
    let p = refused_page c.next_page.result c.in_err-bytes.field-0.0 c.loop-c.c.pages m in
    let k : Err (number_of p.0) ≡ next_answer (listed_cut c.loop-c.rest.now) = rw p.1 at c.next_page.ensures in
    let e = err_from_is_err_and c.from_residual.result c.from_residual.ensures.1 in
    rw (e.1, e.2, p.2)
    (sym (c.loop-c.invariant.read ∙ read_unless c.loop-c.c c.loop-c.invariant.held listed_cut c.loop-c.rest.now
    c.loop-c-test.true (number_of p.0) k))

pub take_next-requires : goal.take_next-requires
take_next-requires c = facts_sound c.loop-c.c c.loop-c.invariant.held.sound

pub returns-in_err-map_err : goal.returns-in_err-map_err
returns-in_err-map_err c =
    let g : MatchResult c.next_page.result (λ y. y ≡ (c.in_ok-bytes.bytes, c.in_ok-bytes.after)) (λ e. ⊥) =
    MatchResult-weaker c.next_page.result c.in_ok-bytes.ensures.cases (λ y q. cc) (λ e q. q) in
    let n = given_cut c.next_page.result _ _ _ g c.next_page.ensures in
    let m : MatchResult c.take_next.result (λ y. ⊥) (λ e. c.in_err-map_err.field-0.0
    ≡ record { refusal = e; page = c.loop-c.c.pages }) =
    MatchResult-weaker c.take_next.result c.in_err-map_err.ensures.cases (λ y q. absurd (cc)) (λ e q. search rules) in
    let p = refused_page c.take_next.result c.in_err-map_err.field-0.0 c.loop-c.c.pages m in
    let e = err_from_is_err_and c.from_residual-in_err-map_err.result c.from_residual-in_err-map_err.ensures.1 in
    rw (e.1, e.2, p.2)
    (sym (c.loop-c.invariant.read ∙ ends_refused c.loop-c.c c.loop-c.invariant.held listed_cut c.loop-c.rest.now
    c.loop-c-test.true _ _ n
    c.take_next.result c.take_next.new.c c.take_next.ensures p.0 p.1))

-- The page was taken.
pub loop-c-smaller : goal.loop-c-smaller
loop-c-smaller c =
    let g : MatchResult c.next_page.result (λ y. y ≡ (c.in_ok-bytes.bytes, c.in_ok-bytes.after)) (λ e. ⊥) =
    MatchResult-weaker c.next_page.result c.in_ok-bytes.ensures.cases (λ y q. cc) (λ e q. q) in
    let n = given_cut c.next_page.result _ _ _ g c.next_page.ensures in
    let m : MatchResult c.take_next.result (λ y. y ≡ c.in_ok-map_err.field-0) (λ e. ⊥) =
    MatchResult-weaker c.take_next.result c.in_ok-map_err.ensures.cases (λ y q. cc) (λ e q. q) in
    let p = given_page c.take_next.result c.in_ok-map_err.field-0 m in
    let h = goes_on_held c.loop-c.c c.loop-c.invariant.held listed_cut c.loop-c.rest.now c.loop-c-test.true _ _ n
    c.take_next.result c.take_next.new.c c.take_next.ensures _ p in
    let k = goes_on_pages c.loop-c.c c.loop-c.invariant.held listed_cut c.loop-c.rest.now c.loop-c-test.true _ _ n
    c.take_next.result c.take_next.new.c c.take_next.ensures _ p in
    let s : 16 - c.take_next.new.c.pages < 16 - c.loop-c.c.pages = omega (arith, h.sound.within, h.sound.few) in
    s

pub loop-c-preserved : goal.loop-c-preserved
loop-c-preserved c =
    let g : MatchResult c.next_page.result (λ y. y ≡ (c.in_ok-bytes.bytes, c.in_ok-bytes.after)) (λ e. ⊥) =
    MatchResult-weaker c.next_page.result c.in_ok-bytes.ensures.cases (λ y q. cc) (λ e q. q) in
    let n = given_cut c.next_page.result _ _ _ g c.next_page.ensures in
    let m : MatchResult c.take_next.result (λ y. y ≡ c.in_ok-map_err.field-0) (λ e. ⊥) =
    MatchResult-weaker c.take_next.result c.in_ok-map_err.ensures.cases (λ y q. cc) (λ e q. q) in
    let p = given_page c.take_next.result c.in_ok-map_err.field-0 m in
    record {
      held = goes_on_held c.loop-c.c c.loop-c.invariant.held listed_cut c.loop-c.rest.now c.loop-c-test.true _ _ n
          c.take_next.result c.take_next.new.c c.take_next.ensures _ p;
      read = c.loop-c.invariant.read
          ∙ goes_on c.loop-c.c c.loop-c.invariant.held listed_cut c.loop-c.rest.now c.loop-c-test.true _ _ n
          c.take_next.result c.take_next.new.c c.take_next.ensures _ p;
    }
