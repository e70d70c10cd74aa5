-- `in_place::distinct::ids_differ` meets its contract: what all stores give is what the stores from i on give to the
-- ids.
use Rattle.std.specs.Prelude.{◌≡◌, [], eqb, length, take, replicate}
use Rattle.std.proofs.Common.{refl, sym, ◌∙◌, arith, add-one}
use Rattle.std.proofs.lemmas.Grind.{common_steps}
use Rattle.std.proofs.lemmas.List.Edits.{sets}
use Rattle.lists.specs.Tests.{length_along}
use Rattle.lists.specs.Counting.{unseen, seen_with}
use Rattle.lists.specs.Slices.{take_sets_map}
use Rattle.lists.proofs.Found.{none_found}
use Rattle.layout.specs.Records.{id_of, ids_of}
use Rattle.layout.specs.Distinct.{id_tests}
use Rattle.page.specs.Content.{component_at}
use Rattle.in_place.specs.Places.{components_at}
use Rattle.in_place.specs.SliceLaws.{components_next, components_done, components_length}
use Rattle.in_place.proofs.distinct.ids_differ.Goals as goal

pub loop-i-init : goal.loop-i-init
loop-i-init c = refl

pub overflow_add-at : goal.overflow_add-at
overflow_add-at c = omega (arith, c.requires.1 c.loop-i.i c.loop-i-test.true)

pub read_at-requires : goal.read_at-requires
read_at-requires c = omega (arith, c.requires.1 c.loop-i.i c.loop-i-test.true)

pub loop-i-preserved : goal.loop-i-preserved
unfolding component_at
loop-i-preserved c =
    let e = components_next c.args.s.now c.args.places.now c.loop-i.i c.loop-i-test.true in
    c.loop-i.invariant ∙ rw (e, c.read_at.ensures, add-one)

pub returns : goal.returns
returns c =
    let cs = components_at c.args.s.now c.args.places.now in
    let n : length cs ≡ length c.args.places.now = components_length c.args.s.now c.args.places.now in
    let e = components_done c.args.s.now c.args.places.now c.loop-i.i c.loop-i-test.false in
    let x : c.loop-i.ids ≡ sets (replicate 16 0) 0 (ids_of cs) = sym (c.loop-i.invariant ∙ rw e) in
    let t : take (length c.args.places.now) c.loop-i.ids ≡ ids_of cs =
    rw x (rw n at (take_sets_map id_of (replicate 16 0) cs (omega arith))) in
    let f = none_found (id_tests cs) c.id_fault.result _ (rw t at c.id_fault.ensures)
    (length_along (unseen eqb) seen_with [] (ids_of cs)) in
    grind (arith, common_steps)
