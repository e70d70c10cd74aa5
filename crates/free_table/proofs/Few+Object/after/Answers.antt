-- `free_table::Few<Object>::after` meets its contract, by its two tests.
use Rattle.std.proofs.Common.{inl, inr, arith, lt-ltb, le-ltb}
use Rattle.free_table.specs.Scanning.{choice_after}
use Rattle.free_table.proofs.Few+Object.after.Goals as goal

pub returns-then-may : goal.returns-then-may
unfolding choice_after
returns-then-may c =
    rw (lt-ltb c.args.self.count c.args.s (omega arith), c.if-may.true, c.next_object.ensures)

pub returns : goal.returns
unfolding choice_after
returns c =
    elim c.else-self-s.either [
      | inl p ↦ rw (lt-ltb c.args.self.count c.args.s (omega arith), p.1)
      | inr h ↦ rw (le-ltb c.args.self.count c.args.s (omega arith))
    ]
