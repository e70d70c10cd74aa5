-- `mapping::units::unit_count` meets its contract: no bytes have no unit, those in one unit have one, else it divides.
use Prim.Native.Nat.{◌+◌, ◌-◌, ◌/◌, ◌%◌, ◌^◌, ◌<◌, ◌≤◌}
use mathlib.Core.Path.{◌≡◌, sym}
use native.Mathlib.Nat.{mod-le, mod-lt}
use native.Mathlib.Omega.{arith}
use borrow.Author.Rules.{rules}
use Rattle.mapping.specs.UnitLaws.{unit_end_lem, unit_count_none, unit_count_last, unit_count_within}
use Rattle.mapping.specs.UnitLaws.{unit_count_bound}
use Rattle.mapping.specs.Cutting.{unit_end, unit_count}
use Rattle.mapping.proofs.units.unit_count.Goals as goal

pub returns-then-to-from : goal.returns-then-to-from
returns-then-to-from c =
    (sym (unit_count_none c.args.z c.args.from c.args.to c.if-to-from.true), search rules)

pub returns-then-to_last-size : goal.returns-then-to_last-size
returns-then-to_last-size c =
    let h : c.args.to ≤ unit_end c.args.z c.args.from =
    omega (arith, unit_end_lem c.args.z c.args.from (omega arith)) in
    (sym (unit_count_last c.args.z c.args.from c.args.to (omega arith) (omega arith) h), search rules)

pub overflow_add-result : goal.overflow_add-result
overflow_add-result c = omega (arith, mod-le c.args.from c.args.z)

-- The number of units, by the division, and its bound.
units : (c : goal.Else-to_last-size) →
    ((c.args.from % c.args.z + (c.args.to - c.args.from - 1)) / c.args.z + 1
    ≡ unit_count c.args.z c.args.from c.args.to)
    × (unit_count c.args.z c.args.from c.args.to ≤ 2 ^ 48)
units c = (
  sym (unit_count_within c.args.z c.args.from c.args.to (omega arith) (omega arith)),
  unit_count_bound c.args.z c.args.from c.args.to c.requires (omega arith),
)

pub overflow_add-result-2 : goal.overflow_add-result-2
overflow_add-result-2 c = omega (arith, (units c).0, (units c).1)

pub returns : goal.returns
returns c = ((units c).0, omega (arith, (units c).0, (units c).1))

pub overflow_sub-size : goal.overflow_sub-size
overflow_sub-size c =
    let h : 0 < c.args.z = omega arith in
    omega (arith, mod-lt c.args.from h)
