-- `free_table::choose` meets its contract: what is chosen from all the records is the choice so far and what is chosen
-- from those from r on.
use Rattle.std.specs.Prelude.{ℕ, ◌+◌, ◌-◌, ◌≤◌, ◌≡◌, List, [], get_or, drop}
use Rattle.std.proofs.Common.{ap, sym, ◌∙◌, subst, arith, drop_of_length-le}
use Rattle.std.proofs.Math.Nat.{sub-zero}
use Rattle.std.proofs.lemmas.List.{drop_more}
use Rattle.layout.specs.Records.{no_object, pack_objects}
use Rattle.free_table.specs.declared.TargetRecord.{TargetRecord}
use Rattle.free_table.specs.Table.{no_record, usable}
use Rattle.free_table.specs.Choosing.{Choice, chosen, choice_of, with_more}
use Rattle.free_table.specs.Scanning.{choice_after}
use Rattle.free_table.specs.ScanLaws.{choice_few}
use Rattle.free_table.proofs.ChoosingLaws.{table_facts, chosen_nil, chosen_few, chosen_targets, more_chosen, more_none}
use Rattle.free_table.proofs.ChoosingLaws.{choice_more, first_packed}
use Rattle.free_table.proofs.choose.Goals as goal

pub loop-r-init : goal.loop-r-init
unfolding pack_objects
loop-r-init c =
    let ok = usable c.args.mark in
    record {
      few = omega arith;
      rest =
          more_chosen [] (chosen ok (c.args.s - 0) c.args.table.now)
          ∙ ap (λ (k : ℕ). choice_of (chosen ok k c.args.table.now)) (sub-zero c.args.s);
    }

pub loop-r-preserved : goal.loop-r-preserved
loop-r-preserved c =
    let ok = usable c.args.mark in
    let rest = drop (c.loop-r.r-index + 1) c.args.table.now in
    let r = get_or c.args.table.now c.loop-r.r-index no_record in
    let e : c.after-choice.result ≡ choice_after c.loop-r.choice c.args.s (ok r) r = c.after-choice.ensures
    ∙ rw c.is_usable.ensures in
    record {
      few = subst (λ (x : Choice). x.count ≤ c.args.s) (sym e)
          (choice_few c.loop-r.choice c.args.s (ok r) r c.loop-r.invariant.few);
      rest =
          ap (λ (x : Choice). with_more x (chosen ok (c.args.s - x.count) rest)) e
          ∙ choice_more ok c.loop-r.choice c.args.s r rest c.loop-r.invariant.few
          ∙ ap (λ (rs : List TargetRecord). with_more c.loop-r.choice (chosen ok (c.args.s - c.loop-r.choice.count) rs))
          (sym (drop_more c.args.table.now c.loop-r.r-index no_record c.loop-r-test.true))
          ∙ c.loop-r.invariant.rest;
    }

pub returns : goal.returns
returns c =
    let ok = usable c.args.mark in
    let x = c.loop-r.choice in
    let os = chosen ok c.args.s c.args.table.now in
    let none : drop c.loop-r.r-index c.args.table.now ≡ [] = drop_of_length-le c.args.table.now c.loop-r-test.false in
    let e : x ≡ choice_of os =
    sym (more_none x) ∙ ap (with_more x) (sym (chosen_nil ok (c.args.s - x.count)))
    ∙ ap (λ (rs : List TargetRecord). with_more x (chosen ok (c.args.s - x.count) rs)) (sym none)
    ∙ c.loop-r.invariant.rest in
    let few = chosen_few ok c.args.s c.args.table.now in
    let t = chosen_targets ok 0 c.args.s c.args.table.now (table_facts c.args.table.now c.requires.1).1 in (
      e,
      c.loop-r.invariant.few,
      rw (ap (λ (y : Choice). (get_or y.items 0 no_object).target) e) (first_packed os 65534 (omega arith) t),
    )
