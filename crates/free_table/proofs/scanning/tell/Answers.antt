-- `free_table::scanning::tell` meets its contract: each part of the scan is what a function gives.
use Rattle.free_table.specs.Scanning.{told}
use Rattle.free_table.proofs.scanning.tell.Goals as goal

pub returns : goal.returns
unfolding told
returns c =
    rw (
      c.after.ensures,
      c.is_eligible-may.ensures,
      c.as_slice-2.ensures,
      c.tell_lows.ensures,
      c.as_slice.ensures,
      c.free_below.ensures,
    )
