-- `gateway::growing::grow` meets its contract: the reading's refusal comes first, then that of growth, then 20.
use Rattle.std.proofs.Common.{◌≡◌, ◌++◌, ◌∙◌, sym, arith, length, take, drop, length-take}
use Rattle.std.proofs.lemmas.Result.{err_from_is_err_and}
use Rattle.std.proofs.lemmas.List.{take_at}
use Rattle.refusals.specs.Refusals.{number_pos}
use Rattle.growth_rules.proofs.ValidityLaws.{grow_valid}
use Rattle.growth.specs.Answers as growth
use Rattle.gateway.specs.Host.{host_layout}
use Rattle.gateway.specs.HostGrowth.{grow_number, table_after, grown_after, answer_after}
use Rattle.gateway.proofs.HostLaws.{host_valid}
use Rattle.gateway.proofs.FoundLaws.{found_refused, found_read}
use Rattle.gateway.proofs.HostGrowthLaws.{step_read, growth_refused, results_given}
use Rattle.gateway.proofs.growing.grow.Goals as goal

pub returns-in_err-read : goal.returns-in_err-read
unfolding grow_number table_after grown_after answer_after
returns-in_err-read c =
    let p = err_from_is_err_and c.from_residual.result c.from_residual.ensures.1 in
    let f = found_refused c.in_err-read.ensures in
    rw (p.1, p.2) (f.number _, f.lent _ _ _, f.lent _ _ _, f.lent _ _ _)

pub grow_valid-requires : goal.grow_valid-requires
grow_valid-requires c =
    rw c.layout_found-l.ensures (host_valid c.args.pages.now (found_read c.in_ok-read.ensures))

pub returns-in_err-step : goal.returns-in_err-step
unfolding growth.grow_says
returns-in_err-step c =
    let p = err_from_is_err_and c.from_residual-in_err-step.result c.from_residual-in_err-step.ensures.1 in
    let l = c.layout_found-l.ensures in
    let zero = found_read c.in_ok-read.ensures in
    let said = step_read c.args.pages.now c.args.offset c.args.low_mark c.args.table.now _ _ zero l
    c.load-n.ensures.1 _ _
    c.in_err-step.ensures in
    rw (p.1, p.2) (growth_refused c.args.pages.now c.args.offset c.args.low_mark c.args.table.now c.args.grown.now
    c.args.answer.now zero _
    said.answer (number_pos _))

pub give-requires : goal.give-requires
unfolding growth.grow_says
give-requires c =
    let l = c.layout_found-l.ensures in
    let zero = found_read c.in_ok-read.ensures in
    let said = step_read c.args.pages.now c.args.offset c.args.low_mark c.args.table.now _ _ zero l
    c.load-n.ensures.1 _ _
    c.in_ok-step.ensures in
    let rs = c.grow_valid.new.table in
    let n : length rs ≡ c.load-n.result =
    omega (arith, c.grow_valid.auto.table, length-take c.load-n.result c.load-n.new.records) in
    let same : take c.load-n.result (rs ++ drop c.load-n.result c.load-n.new.records) ≡ rs =
    take_at rs _ c.load-n.result n in (
      rw said.layout (grow_valid (host_layout c.args.pages.now) _ (host_valid c.args.pages.now zero)),
      rw same (said.table _ (sym said.answer)).1,
    )

pub returns : goal.returns
unfolding growth.grow_says
returns c =
    let l = c.layout_found-l.ensures in
    let zero = found_read c.in_ok-read.ensures in
    let said = step_read c.args.pages.now c.args.offset c.args.low_mark c.args.table.now _ _ zero l
    c.load-n.ensures.1 _ _
    c.in_ok-step.ensures in
    let rs = c.grow_valid.new.table in
    let n : length rs ≡ c.load-n.result =
    omega (arith, c.grow_valid.auto.table, length-take c.load-n.result c.load-n.new.records) in
    let same : take c.load-n.result (rs ++ drop c.load-n.result c.load-n.new.records) ≡ rs =
    take_at rs _ c.load-n.result n in
    results_given c.args.pages.now c.args.offset c.args.low_mark c.args.table.now c.args.grown.now c.args.answer.now
    zero _ said.answer _ _
    said.layout (same ∙ (said.table _ (sym said.answer)).0) _ _ _ _ c.give.ensures
