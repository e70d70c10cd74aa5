-- `growth::plans::MarkedTable::choosing` meets its contract: there are as many chosen targets as stripes, or not.
use Rattle.std.proofs.Common.{◌≡◌, length, sym, ap, ◌∙◌, eq-eqb, ne_eqb}
use Rattle.layout.specs.Records.{pack_objects}
use Rattle.free_table.specs.Table.{usable}
use Rattle.free_table.specs.Choosing.{Choice, chosen}
use Rattle.growth.specs.Plans.{choosing_plan}
use Rattle.growth.proofs.plans.MarkedTable.choosing.Goals as goal

pub returns-then-choice-s : goal.returns-then-choice-s
unfolding choosing_plan
returns-then-choice-s c =
    let os = chosen (usable c.args.self.mark) c.args.p.made.stripe_count c.args.self.table.now in
    let n : c.choose-choice.result.count ≡ length os = ap (λ (y : Choice). y.count) c.choose-choice.ensures.0 in
    rw (ne_eqb (length os) c.args.p.made.stripe_count (λ e. c.if-choice-s.true (n ∙ e)))

pub returns : goal.returns
unfolding choosing_plan
returns c =
    let s = c.args.p.made.stripe_count in
    let x = c.choose-choice in
    let os = chosen (usable c.args.self.mark) s c.args.self.table.now in
    let n : length os ≡ s = sym (ap (λ (y : Choice). y.count) x.ensures.0) ∙ c.if-choice-s.false in
    let o : x.result.items ≡ pack_objects os = ap (λ (y : Choice). y.items) x.ensures.0 in
    rw (c.init_with.ensures, o, eq-eqb (length os) s n, n)
