-- `free_table::choose` meets its contract: what is chosen from all the records is the choice so far and what is chosen
-- from those from r on.
use Rattle.std.proofs.Common.{◌≡◌, ◌-◌, ◌≤◌, drop}
use Rattle.free_table.specs.Table.{usable}
use Rattle.free_table.specs.Choosing.{chosen, choice_of, with_more}
use Rattle.free_table.proofs.choose.Given as goal

abbrev pub invariant-loop-r : goal.invariant-loop-r
invariant-loop-r l = record {
  few : l.choice.count ≤ l.s;
  rest : with_more l.choice (chosen (usable l.mark) (l.s - l.choice.count) (drop l.r-index l.table))
      ≡ choice_of (chosen (usable l.mark) l.s l.table);
}
