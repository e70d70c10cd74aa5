-- `collector::run::read_listed` meets its contract: the whole reading is the reading from the collector on, of the
-- bytes that are left.
use Prim.Native.Nat.{◌-◌}
use mathlib.Core.Path.{◌≡◌}
use Rattle.collector.specs.Runs.{read_run, listed_cut}
use Rattle.collector.proofs.RunLaws.{Held, read_from}
use Rattle.collector.proofs.run.read_listed.Given as goal

abbrev pub invariant-loop-c : goal.invariant-loop-c
invariant-loop-c l = record {
  held : Held l.c;
  read : read_run listed_cut l.s ≡ read_from listed_cut l.c l.rest;
}

-- Each turn takes a page, and there are at most 16.
abbrev pub decreases-loop-c : goal.decreases-loop-c
decreases-loop-c l = 16 - l.c.pages
