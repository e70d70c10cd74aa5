-- `stripe::stripe_of` meets its contract: what it computes is the stripe, which is below the stripe count and so fits.
use Prim.Native.Nat.{◌%◌, ◌<◌}
use mathlib.Core.Path.{◌≡◌}
use native.Mathlib.Omega.{arith}
use Rattle.stripe.specs.Stripe.{stripe_of}
use Rattle.stripe.proofs.Laws.{stripe_below}
use Rattle.stripe.proofs.stripe_of.Goals as goal

-- The remainder that is computed is the stripe, and below the stripe count.
stripe : (c : goal.After-unit_of) →
    let r = c.unit_of.result % c.args.s in
    (r ≡ stripe_of c.args.z c.args.s c.args.offset) × (r < c.args.s)
unfolding stripe_of
stripe c =
    let e : c.unit_of.result % c.args.s ≡ stripe_of c.args.z c.args.s c.args.offset = rw c.unit_of.ensures in
    (e, rw e (stripe_below c.args.z c.args.s c.args.offset c.requires.1))

pub returns : goal.returns
returns c = (omega (arith, (stripe c).0), omega (arith, (stripe c).1))

pub overflow_cast-result-2 : goal.overflow_cast-result-2
overflow_cast-result-2 c = omega (arith, (stripe c).1)
