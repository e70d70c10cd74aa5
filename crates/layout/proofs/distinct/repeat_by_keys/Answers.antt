-- `layout::distinct::repeat_by_keys` meets its contract: outside, the records before `later` differ; inside, the record
-- is asked of those from `earlier` to `later`, or of none if its key equals none of theirs.
use Rattle.std.proofs.Common.{◌≡◌, refl, length, get_or, sym, ◌∙◌, arith, length-take-le}
use Rattle.std.proofs.lemmas.List.{length-map}
use Rattle.lists.proofs.Loops.{row_pass, row_hit, row_done}
use Rattle.lists.proofs.Found.{fresh_start, fresh_fault, fresh_pass, fresh_end}
use Rattle.layout.specs.Records.{no_object}
use Rattle.layout.specs.Rows.{key_of}
use Rattle.layout.specs.KeyLaws.{row_known}
use Rattle.layout.specs.Distinct.{same_object}
use Rattle.layout.proofs.Objects.{equal_same}
use Rattle.layout.proofs.distinct.repeat_by_keys.Goals as goal

pub loop-later-init : goal.loop-later-init
loop-later-init c = fresh_start same_object _ c.args.from c.requires.1.0 c.requires.1.1

pub slice_bounds-row_start-end : goal.slice_bounds-row_start-end
slice_bounds-row_start-end c =
    let k : length c.args.keys.now ≡ length c.args.objects.now =
    rw c.requires.0 (length-map c.args.objects.now key_of) in
    sym (length-take-le _ c.args.keys.now (omega arith))

pub bounds-keys-later : goal.bounds-keys-later
bounds-keys-later c =
    let k : length c.args.keys.now ≡ length c.args.objects.now =
    rw c.requires.0 (length-map c.args.objects.now key_of) in
    omega arith

pub loop-earlier-init : goal.loop-earlier-init
loop-earlier-init c =
    (row_known c.args.objects.now c.args.keys.now c.loop-later.later c.loop-later-test.true c.requires.0 _ refl _
    c.row_start-earlier.ensures).1

pub loop-earlier-preserved : goal.loop-earlier-preserved
loop-earlier-preserved c =
    let os = c.args.objects.now in
    c.loop-earlier.invariant
    ∙ row_pass same_object os c.loop-later.later c.loop-earlier.earlier _ no_object c.loop-earlier-test.true
    (omega arith) (sym (c.eq.ensures ∙ equal_same (get_or os c.loop-later.later no_object)
    (get_or os c.loop-earlier.earlier no_object)) ∙ c.if-eq.false)

pub loop-later-preserved : goal.loop-later-preserved
loop-later-preserved c =
    fresh_pass same_object c.args.objects.now c.loop-later.later no_object (omega arith) c.loop-later.invariant
    (c.loop-earlier.invariant ∙ row_done same_object c.args.objects.now c.loop-later.later c.loop-earlier.earlier _
    (omega arith))

pub returns-then-eq : goal.returns-then-eq
returns-then-eq c =
    let os = c.args.objects.now in
    let j = c.loop-later.later in
    fresh_fault same_object os j no_object (omega arith) c.loop-later.invariant
    (c.loop-earlier.invariant
    ∙ row_hit same_object os j c.loop-earlier.earlier _ no_object c.loop-earlier-test.true (omega arith)
    (sym (c.eq.ensures ∙ equal_same (get_or os j no_object) (get_or os c.loop-earlier.earlier no_object))
    ∙ c.if-eq.true))

pub returns-after-loop-later : goal.returns-after-loop-later
returns-after-loop-later c =
    fresh_end same_object c.args.objects.now c.loop-later.later c.loop-later.invariant (omega arith)
