-- `placed_mapping`: `stripe` meets its contract: the object records are asked one after another.
use borrow.Author.Rules.{rules}
use borrow.Author.Tests.{tests}
use Rattle.std.proofs.Common.{◌≡◌, ◌∙◌, ◌<◌, ◌≤◌, get_or, length, sym, arith, lt-ltb, le-ltb}
use Rattle.layout.specs.Records.{no_object, records_of}
use Rattle.layout.specs.Distinct.{same_object}
use Rattle.page.specs.Content.{component_at}
use Rattle.in_place.specs.RecordLaws.{records_length}
use Rattle.mapping.specs.Back.{position_in}
use Rattle.mapping.proofs.Firsts.{first_here, first_later}
use Rattle.placed_mapping.specs.PlacedLaws.{component_placed}
use Rattle.placed_mapping.specs.FieldLaws.{record_placed}
use Rattle.placed_mapping.proofs.PlacedComponents.stripe.Goals as goal

pub loop-j-init : goal.loop-j-init
loop-j-init c = omega arith

pub loop-j-preserved : goal.loop-j-preserved
unfolding same_object
loop-j-preserved c =
    let s = c.args.self.now in
    let at = get_or s.places.now c.args.i 0 in
    let os = records_of (component_at s.pages.now at) in
    let h : c.loop-j.j < length os = omega (arith, records_length s.pages.now at) in
    let same : c.eq.result ≡ same_object c.args.object c.object_at.result = search (rules, tests) in
    first_later (same_object c.args.object) os c.loop-j.j no_object h c.loop-j.invariant
    (rw (record_placed s.pages.now at c.loop-j.j h, ← c.object_at.ensures) (sym same ∙ c.if-eq.false))

pub returns-then-eq : goal.returns-then-eq
unfolding same_object
returns-then-eq c =
    let s = c.args.self.now in
    let at = get_or s.places.now c.args.i 0 in
    let os = records_of (component_at s.pages.now at) in
    let h : c.loop-j.j < length os = omega (arith, records_length s.pages.now at) in
    let same : c.eq.result ≡ same_object c.args.object c.object_at.result = search (rules, tests) in
    let here : position_in c.args.object os ≡ c.loop-j.j
    = first_here (same_object c.args.object) os c.loop-j.j no_object h c.loop-j.invariant
    (rw (record_placed s.pages.now at c.loop-j.j h, ← c.object_at.ensures) (sym same ∙ c.if-eq.true)) in
    rw (component_placed s.pages.now s.places.now c.args.i c.requires, here, lt-ltb c.loop-j.j (length os) h)

pub returns : goal.returns
returns c =
    let s = c.args.self.now in
    let at = get_or s.places.now c.args.i 0 in
    let os = records_of (component_at s.pages.now at) in
    let none : length os ≤ position_in c.args.object os
    = omega (arith, records_length s.pages.now at, c.loop-j.invariant) in
    rw (
      component_placed s.pages.now s.places.now c.args.i c.requires,
      le-ltb (position_in c.args.object os) (length os) none,
    )
