-- `paging::from_page` meets its contract: the components are left that are in page `counter` or a later one.
use mathlib.Core.Path.{◌≡◌}
use Rattle.paging.specs.Paging.{from_page}
use Rattle.paging.proofs.from_page.Given as goal

abbrev pub invariant-loop : goal.invariant-loop
invariant-loop l = l.rest ≡ from_page l.counter l.components
