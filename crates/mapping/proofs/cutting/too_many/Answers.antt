-- `mapping::cutting::too_many` meets its contract: the definition asks the same tests.
use borrow.Author.Rules.{rules}
use borrow.Author.Tests.{tests}
use Rattle.mapping.specs.Cutting.{too_many}
use Rattle.mapping.proofs.cutting.too_many.Goals as goal

pub returns-then-pieces-gt-MOST_PIECES : goal.returns-then-pieces-gt-MOST_PIECES
unfolding too_many
returns-then-pieces-gt-MOST_PIECES c = search (rules, tests)

pub returns-else-pieces-gt-MOST_PIECES : goal.returns-else-pieces-gt-MOST_PIECES
unfolding too_many
returns-else-pieces-gt-MOST_PIECES c = search (rules, tests)
