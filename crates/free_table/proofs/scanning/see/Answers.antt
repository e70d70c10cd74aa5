-- `free_table::scanning::see` meets its contract, by its two tests.
use Rattle.free_table.specs.Scanning.{seen}
use Rattle.free_table.proofs.scanning.see.Goals as goal

pub returns-then-is_some : goal.returns-then-is_some
unfolding seen
returns-then-is_some c = rw (← c.is_some.ensures, c.if-is_some.true)

pub returns-then-not-target_ok : goal.returns-then-not-target_ok
unfolding seen
returns-then-not-target_ok c =
    rw (← c.is_some.ensures, c.if-is_some.false, ← c.target_ok.ensures, c.if-not-target_ok.true)

pub returns : goal.returns
unfolding seen
returns c =
    rw (← c.is_some.ensures, c.if-is_some.false, ← c.target_ok.ensures, c.if-not-target_ok.false, c.tell.ensures)
