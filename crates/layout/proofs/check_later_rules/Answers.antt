-- `layout::check_later_rules` meets its contract: the first places of the outline are what it was made of, the
-- neighbours and the ids of the components.
use Rattle.std.specs.Prelude.{◌≤◌, ◌≡◌, List, length, take}
use Rattle.std.proofs.Common.{ap, ◌∙◌, arith}
use Rattle.std.proofs.lemmas.List.{length-map}
use Rattle.std.proofs.lemmas.Grind.{common_steps}
use Rattle.lists.specs.Tests.{length_along}
use Rattle.lists.proofs.Found.{none_found}
use Rattle.layout.specs.declared.Component.{Component}
use Rattle.layout.specs.declared.Outline.{Outline}
use Rattle.layout.specs.Records.{neighbours_of, ids_of, outline_of}
use Rattle.layout.specs.Distinct.{distinct_hold}
use Rattle.layout.specs.RecordLaws.{outline_neighbours, outline_ids}
use Rattle.layout.specs.PrefixLaws.{prefix_begins, prefix_follows, prefix_empties, prefix_ids, prefix_objects}
use Rattle.layout.proofs.check_later_rules.Goals as goal

-- The first places of the outline.
module _ (cs : List Component) (o : Outline) (k : length cs ≤ 16) (e : o ≡ outline_of cs) where
  neighbours : take (length cs) o.neighbours ≡ neighbours_of cs
  neighbours = ap (λ (x : Outline). take (length cs) x.neighbours) e ∙ outline_neighbours cs k

  ids : take (length cs) o.ids ≡ ids_of cs
  ids = ap (λ (x : Outline). take (length cs) x.ids) e ∙ outline_ids cs k

pub neighbours_hold-requires : goal.neighbours_hold-requires
neighbours_hold-requires c =
    let cs = c.args.components.now in
    rw (neighbours cs _ c.requires.1 c.outline_of-outline.ensures)
    record {
      within = rw length-map c.requires.0;
      few = rw length-map c.requires.1;
      begins = prefix_begins c.args.from cs c.requires.2;
      follows = prefix_follows c.args.from cs c.requires.2;
      empties = prefix_empties c.args.from cs c.requires.2;
    }

pub returns-then-not-neighbours_hold : goal.returns-then-not-neighbours_hold
returns-then-not-neighbours_hold c =
    rw (
      ← rw (neighbours _ _ c.requires.1 c.outline_of-outline.ensures) at c.neighbours_hold.ensures,
      c.if-not-neighbours_hold.true,
    )

pub id_fault-requires : goal.id_fault-requires
id_fault-requires c =
    rw (ids c.args.components.now _ c.requires.1 c.outline_of-outline.ensures) (
      rw length-map c.requires.0,
      prefix_ids c.args.from c.args.components.now c.requires.2,
    )

pub returns-then-is_some : goal.returns-then-is_some
unfolding distinct_hold
returns-then-is_some c =
    let n = rw (neighbours _ _ c.requires.1 c.outline_of-outline.ensures) at c.neighbours_hold.ensures in
    let i = none_found _ _ _ (rw (ids _ _ c.requires.1 c.outline_of-outline.ensures) at c.id_fault.ensures)
    (length_along _ _ _ _) in
    grind (arith, common_steps)

pub objects_differ-requires : goal.objects_differ-requires
objects_differ-requires c = (c.requires.0, c.requires.1, prefix_objects c.args.from c.args.components.now c.requires.2)

pub returns-then-not-objects_differ : goal.returns-then-not-objects_differ
unfolding distinct_hold
returns-then-not-objects_differ c =
    let n = rw (neighbours _ _ c.requires.1 c.outline_of-outline.ensures) at c.neighbours_hold.ensures in
    let i = none_found _ _ _ (rw (ids _ _ c.requires.1 c.outline_of-outline.ensures) at c.id_fault.ensures)
    (length_along _ _ _ _) in
    grind (arith, common_steps)

pub returns : goal.returns
unfolding distinct_hold
returns c =
    let n = rw (neighbours _ _ c.requires.1 c.outline_of-outline.ensures) at c.neighbours_hold.ensures in
    let i = none_found _ _ _ (rw (ids _ _ c.requires.1 c.outline_of-outline.ensures) at c.id_fault.ensures)
    (length_along _ _ _ _) in
    grind (arith, common_steps)
