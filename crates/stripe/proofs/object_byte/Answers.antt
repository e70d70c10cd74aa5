-- `stripe::object_byte` meets its contract: what it computes is the object byte, which is at most the file byte and so
-- fits.
use Prim.Native.Nat.{◌+◌, ◌*◌, ◌/◌, ◌%◌, ◌≤◌}
use mathlib.Core.Path.{◌≡◌}
use native.Mathlib.Omega.{arith}
use Rattle.stripe.specs.Stripe.{object_byte}
use Rattle.stripe.proofs.Laws.{object_byte_le}
use Rattle.stripe.proofs.object_byte.Goals as goal

-- The sum that is computed is the object byte, and at most the file byte.
byte : (c : goal.After-unit_of) →
    let r = c.unit_of.result / c.args.s * c.args.z + c.args.offset % c.args.z in
    (r ≡ object_byte c.args.z c.args.s c.args.offset) × (r ≤ c.args.offset)
unfolding object_byte
byte c =
    let r = c.unit_of.result / c.args.s * c.args.z + c.args.offset % c.args.z in
    let e : r ≡ object_byte c.args.z c.args.s c.args.offset = rw c.unit_of.ensures in
    (e, rw e (object_byte_le c.args.z c.args.s c.args.offset))

pub returns : goal.returns
returns c = (omega (arith, (byte c).0), omega (arith, (byte c).1))

pub overflow_mul-result : goal.overflow_mul-result
overflow_mul-result c = omega (arith, (byte c).1)

pub overflow_add-result : goal.overflow_add-result
overflow_add-result c = omega (arith, (byte c).1)
