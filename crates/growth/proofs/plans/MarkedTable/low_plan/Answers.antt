-- `growth::plans::MarkedTable::low_plan` meets its contract: the extension is the last component, or not.
use Rattle.std.specs.Prelude.{◌+◌, ◌-◌, ◌<◌, ◌≡◌, [], ◌∷◌, length, get_or, drop, Ok}
use Rattle.std.proofs.Common.{ap, sym, ◌∙◌, arith, length-take, length-drop, drop_of_length-le}
use Rattle.std.proofs.lemmas.List.{take_rest, drop_more, get_or-drop}
use Rattle.layout.specs.FactLaws.{kind_few}
use Rattle.layout.specs.ArrayLaws.{kind_at}
use Rattle.layout.specs.Records.{ids_of}
use Rattle.layout.proofs.Unread.{unread}
use Rattle.growth_rules.specs.Parts.{fresh_id}
use Rattle.growth.specs.Plans.{low_plan}
use Rattle.growth.proofs.plans.MarkedTable.low_plan.Goals as goal

pub spill_plan-requires : goal.spill_plan-requires
spill_plan-requires c =
    let cs = c.args.components.now in
    let k = c.args.j + 2 in
    let h : k + 0 < length cs = omega (arith, length-take (length cs - k) (drop k cs), length-drop k cs) in
    let few = kind_few (kind_at cs c.requires.2 unread (k + 0) h) in
    (omega (arith, c.requires.0, c.requires.1), rw (take_rest cs k, get_or-drop k cs 0 unread) few)

pub returns-in-empty : goal.returns-in-empty
unfolding low_plan
returns-in-empty c =
    let cs = c.args.components.now in
    let k = c.args.j + 2 in
    let none : drop k cs ≡ [] =
    drop_of_length-le cs (omega (arith, length-take (length cs - k) (drop k cs), length-drop k cs)) in
    ap Ok (c.repeat_plan.ensures ∙ rw c.fresh_id.ensures)
    ∙ sym (ap (low_plan c.args.self.mark c.args.self.table.now (fresh_id (ids_of cs)) c.args.j c.args.c c.args.x) none)

pub returns-in-len1-up : goal.returns-in-len1-up
unfolding low_plan
returns-in-len1-up c =
    let cs = c.args.components.now in
    let k = c.args.j + 2 in
    let h : 0 < length (drop k cs) = omega (arith, length-take (length cs - k) (drop k cs), length-drop k cs) in
    let some : drop k cs ≡ get_or (drop k cs) 0 unread ∷ drop 1 (drop k cs) = drop_more (drop k cs) 0 unread h in
    (rw (take_rest cs k, take_rest (drop k cs) 1) at c.spill_plan.ensures)
    ∙ sym (ap (low_plan c.args.self.mark c.args.self.table.now (fresh_id (ids_of cs)) c.args.j c.args.c c.args.x) some)
