-- `free_table::scanning::tell_lows` meets its contract: the flag of target i is set, or stays.
use Rattle.std.specs.Prelude.{List, Bool, false, set, take}
use Rattle.std.proofs.Common.{ap, sym, ◌∙◌, arith, eq-eqb, ne_eqb}
use Rattle.std.proofs.lemmas.List.{set-get_or}
use Rattle.free_table.specs.Scanning.{lows_after}
use Rattle.free_table.specs.ScanLaws.{lows_next}
use Rattle.free_table.proofs.scanning.tell_lows.Goals as goal
use Rattle.free_table.proofs.scanning.tell_lows.Goals.{then-of-target, else-of-target}

pub loop-i-preserved : goal.loop-i-preserved
loop-i-preserved c =
    let flags = lows_after c.args.of c.args.below (take c.loop-i.i c.args.targets.now) c.args.low.now in
    let next = lows_next c.args.of c.args.below c.args.targets.now c.args.low.now c.loop-i.i c.loop-i-test.true
    (omega arith) in
    elim c.if-of-target.branch [
      | then-of-target w ↦
          w.low-is ∙ ap (λ (l : List Bool). set l c.loop-i.i c.args.below) c.loop-i.invariant
          ∙ rw (eq-eqb _ _ w.if-of-target.true) at next
      | else-of-target w ↦
          w.low-is ∙ c.loop-i.invariant ∙ sym (set-get_or flags c.loop-i.i false)
          ∙ rw (ne_eqb _ _ w.if-of-target.false) at next
    ]
