-- `page::form::walk` meets its contract: the form, the end and the places are those of the components that are left.
use Prim.Native.Nat.{◌+◌}
use mathlib.Core.Path.{◌≡◌, refl, ◌∙◌}
use mathlib.Core.Bool.{true, false}
use native.Mathlib.Omega.{arith}
use native.Mathlib.Nat.{sub-zero, add-zero}
use lib.ListN.{length-set}
use lib.Seq.{take-set-le}
use Rattle.page.specs.Form.{counted, head_form, form_by}
use Rattle.page.specs.FormLaws.{component_within}
use Rattle.page.proofs.Walking.{form_short, form_headless, form_start, form_turn, ended, end_turn, places_turn}
use Rattle.page.proofs.Walking.{walks_faulty}
use Rattle.page.proofs.form.walk.Goals as goal
use Rattle.page.proofs.form.walk.Goals.{then-limit-lt16-via-then-limit-lt16}
use Rattle.page.proofs.form.walk.Goals.{then-limit-lt16-via-else-limit-lt16+then-not-head_form}

pub returns-then-limit-lt16 : goal.returns-then-limit-lt16
returns-then-limit-lt16 c =
    let f : form_by c.args.limit c.args.s.now ≡ false =
    elim c.then-limit-lt16.branch [
      | then-limit-lt16-via-then-limit-lt16 w ↦ form_short c.args.limit c.args.s.now w.if-limit-lt16.true
      | then-limit-lt16-via-else-limit-lt16+then-not-head_form w ↦
          form_headless c.args.limit c.args.s.now (cc) w.if-limit-lt16.false
    ] in
    walks_faulty c.args.limit c.args.s.now c.args.base c.args.n c.args.places.now c.args.places.now f refl refl

pub loop-i-init : goal.loop-i-init
loop-i-init c =
    let e : head_form c.args.s.now ≡ true = cc in
    let m : c.from-count.result ≡ counted c.args.s.now = cc in
    record {
      begun = omega arith;
      within = omega arith;
      positions = c.requires.4;
      formed = rw m (form_start c.args.limit c.args.s.now e (omega arith));
      ends = rw (m, sub-zero);
      kept = refl;
      stored = rw (m, sub-zero, add-zero);
    }

pub loop-i-preserved : goal.loop-i-preserved
loop-i-preserved c =
    let s = c.args.s.now in
    let n = c.from-count.result in
    let k = c.loop-i.invariant in
    let e = ended _ _ c.in_ok-end.end c.in_ok-end.ensures in
    record {
      begun = omega (arith, e.1);
      within = omega (arith, e.1, component_within c.args.limit s c.loop-i.at e.0);
      positions = rw c.note.ensures (length-set c.loop-i.places (c.args.n + c.loop-i.i) (c.args.base + c.loop-i.at)
          ∙ k.positions);
      formed = rw e.1 (k.formed ∙ form_turn c.args.limit s n c.loop-i.i c.loop-i.at c.loop-i-test.true e.0);
      ends = rw e.1 (k.ends ∙ end_turn s n c.loop-i.i c.loop-i.at c.loop-i-test.true);
      kept = rw c.note.ensures (take-set-le c.args.n c.loop-i.places (c.args.n + c.loop-i.i) (c.args.base + c.loop-i.at)
          (omega arith) ∙ k.kept);
      stored = rw (c.note.ensures, e.1) (k.stored ∙ places_turn s n c.loop-i.i c.loop-i.at c.args.base c.args.n
          c.loop-i.places c.loop-i-test.true);
    }
