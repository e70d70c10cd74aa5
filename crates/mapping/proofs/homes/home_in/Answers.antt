-- `mapping::homes::home_in` meets its contract: the object record is that of the byte's stripe.
use Rattle.std.proofs.Common.{◌≡◌}
use Rattle.stripe.specs.Stripe.{stripe_of, object_byte}
use Rattle.mapping.specs.Homes.{home_in}
use Rattle.mapping.proofs.homes.home_in.Goals as goal

pub returns : goal.returns
unfolding home_in
returns g c =
    let x = g.T.OneComponent.component c.args.c.now in
    let stripe : c.striped-stripe.result.0 ≡ stripe_of x.stripe_size x.stripe_count c.args.offset
    = rw c.span.ensures at c.striped-stripe.ensures.0 in
    let byte : c.striped-stripe.result.1 ≡ object_byte x.stripe_size x.stripe_count c.args.offset
    = rw c.span.ensures at c.striped-stripe.ensures.1 in
    rw (← stripe, ← byte, ← c.object-object.ensures)
