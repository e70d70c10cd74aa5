-- `stripe::unit_of` meets its contract: the quotient is the unit.
use borrow.Author.Rules.{rules}
use Rattle.stripe.specs.Stripe.{unit_of}
use Rattle.stripe.proofs.unit_of.Goals as goal

pub returns : goal.returns
unfolding unit_of
returns c = search rules
