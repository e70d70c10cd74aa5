-- `page::form::end_of_component` meets its contract: its tests are those of the component's form, in another order.
use Prim.Native.Nat.{◌+◌, ◌≤◌, ◌<◌}
use mathlib.Core.Path.{◌≡◌}
use mathlib.Core.Bool.{true, false}
use native.Mathlib.Omega.{arith}
use Rattle.page.specs.Form.{component_marks, component_end, objects_form, records_at}
use Rattle.page.specs.FormLaws.{component_of}
use Rattle.page.proofs.Walking.{past_limit, marks_wrong, objects_wrong}
use Rattle.page.proofs.form.end_of_component.Goals as goal
use Rattle.page.proofs.form.end_of_component.Goals.{else-component_marks-via-then-component_marks+else-objects_form}
use Rattle.page.proofs.form.end_of_component.Goals.{else-component_marks-via-else-component_marks}

pub returns-then-limit-at-lt40 : goal.returns-then-limit-at-lt40
returns-then-limit-at-lt40 c =
    let h : c.args.limit < component_end c.args.s.now c.args.at = omega arith in
    rw (past_limit c.args.limit c.args.s.now c.args.at h)

pub returns-then-limit-at : goal.returns-then-limit-at
returns-then-limit-at c =
    let h : c.args.limit < component_end c.args.s.now c.args.at = omega arith in
    rw (past_limit c.args.limit c.args.s.now c.args.at h)

pub returns-then-objects_form : goal.returns-then-objects_form
returns-then-objects_form c =
    let h : component_end c.args.s.now c.args.at ≤ c.args.limit = omega arith in
    let m : component_marks c.args.s.now c.args.at ≡ true = cc in
    let f : objects_form (records_at c.args.s.now c.args.at) c.args.s.now (c.args.at + 40) ≡ true = cc in
    rw (component_of c.args.limit c.args.s.now c.args.at h m f, c.record_count-records.ensures.0)

pub returns-else-component_marks : goal.returns-else-component_marks
returns-else-component_marks c =
    let h : component_end c.args.s.now c.args.at ≤ c.args.limit = omega arith in
    elim c.else-component_marks.branch [
      | else-component_marks-via-then-component_marks+else-objects_form w ↦
          let m : component_marks c.args.s.now c.args.at ≡ true = cc in
          let f : objects_form (records_at c.args.s.now c.args.at) c.args.s.now (c.args.at + 40) ≡ false = cc in
          rw (objects_wrong c.args.limit c.args.s.now c.args.at h m f)
      | else-component_marks-via-else-component_marks w ↦
          let m : component_marks c.args.s.now c.args.at ≡ false = cc in
          rw (marks_wrong c.args.limit c.args.s.now c.args.at h m)
    ]
