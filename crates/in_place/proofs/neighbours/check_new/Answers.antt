-- `in_place::neighbours::check_new` meets its contract: the components asked so far and those that are left give what
-- all give.
use Rattle.std.specs.Prelude.{◌+◌, drop, get_or}
use Rattle.std.proofs.Common.{sym, ◌∙◌, arith}
use Rattle.page.specs.Content.{component_at}
use Rattle.in_place.specs.Places.{components_at}
use Rattle.in_place.specs.SliceLaws.{components_next, components_done}
use Rattle.in_place.proofs.Joined.{broken_start, broken_next, broken_done}
use Rattle.in_place.proofs.neighbours.check_new.Goals as goal

pub loop-at-init : goal.loop-at-init
loop-at-init c = rw c.last_at-last.ensures (broken_start c.args.more _ _)

pub neighbour_at-c-requires : goal.neighbour_at-c-requires
neighbour_at-c-requires c = omega (arith, c.requires.1 c.loop-at.at-index c.loop-at-test.true)

pub fields_ok-sound-requires : goal.fields_ok-sound-requires
fields_ok-sound-requires c = c.requires.1 c.loop-at.at-index c.loop-at-test.true

pub loop-at-preserved : goal.loop-at-preserved
loop-at-preserved c =
    let e = components_next c.args.s.now c.args.new.now c.loop-at.at-index c.loop-at-test.true in
    let x = component_at c.args.s.now (get_or c.args.new.now c.loop-at.at-index 0) in
    let rest = components_at c.args.s.now (drop (c.loop-at.at-index + 1) c.args.new.now) in
    c.loop-at.invariant ∙ rw (e, c.joins-joined.ensures, c.fields_ok-sound.ensures, c.neighbour_at-c.ensures)
    (broken_next c.args.more c.loop-at.sound c.loop-at.joined c.loop-at.last x rest)

pub returns-then-not-sound : goal.returns-then-not-sound
returns-then-not-sound c =
    let e = components_done c.args.s.now c.args.new.now c.loop-at.at-index c.loop-at-test.false in
    sym (c.loop-at.invariant ∙ rw (e, broken_done, c.if-not-sound.true))

pub returns-then-joined-ends : goal.returns-then-joined-ends
returns-then-joined-ends c =
    let e = components_done c.args.s.now c.args.new.now c.loop-at.at-index c.loop-at-test.false in
    sym (c.loop-at.invariant ∙ rw (e, broken_done, c.if-not-sound.false, ← c.is_empty.ensures, c.if-joined-ends.true))

pub returns : goal.returns
returns c =
    let e = components_done c.args.s.now c.args.new.now c.loop-at.at-index c.loop-at-test.false in
    sym (c.loop-at.invariant ∙ rw (e, broken_done, c.if-not-sound.false, ← c.is_empty.ensures, c.if-joined-ends.false))
