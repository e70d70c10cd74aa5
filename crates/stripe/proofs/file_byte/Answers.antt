-- `stripe::file_byte` meets its contract: a product or sum that is not below 2^64 is at most the file byte, so that is
-- not below it either.
use native.Mathlib.Nat.{le-mul_of_pos_right}
use Rattle.std.specs.Option.{is_some}
use Rattle.std.proofs.Math.Nat.{mod-lt}
use Rattle.std.proofs.Common.{◌≡◌, ◌∙◌, ℕ, ◌+◌, ◌*◌, ◌/◌, ◌%◌, ◌^◌, ◌<◌, sym, ap, arith, rules}
use Rattle.std.proofs.Common.{Option, Some, None, SomeIff}
use Rattle.stripe.specs.Stripe.{file_byte, file_byte_below}
use Rattle.stripe.specs.Laws.{told_below, file_byte_some, file_byte_none}
use Rattle.stripe.proofs.Laws.{told_some}
use Rattle.stripe.proofs.file_byte.Goals as goal

-- An answer that is the file byte below 2^64 is told by the tests of the law.
both : (z s i p : ℕ) → 0 < z → 0 < s → z < 2 ^ 64 → (r : Option ℕ) → r ≡ file_byte_below z s i p
    → (r ≡ file_byte_below z s i p) × (is_some r ≡ told_below (2 ^ 64) z s i p)
both z s i p hz hs b r e = (e, ap is_some e ∙ told_some z s i p hz hs (omega (arith, mod-lt p hz, b)))

pub returns-in_err-checked_mul : goal.returns-in_err-checked_mul
unfolding file_byte
returns-in_err-checked_mul c =
    let least = le-mul_of_pos_right (c.args.p / c.args.z * c.args.s + c.args.i) c.requires.0 in
    both c.args.z c.args.s c.args.i c.args.p c.requires.0 c.requires.1 (omega arith) _
    (c.from_residual.ensures ∙ sym (file_byte_none c.args.z c.args.s c.args.i c.args.p
    (λ h. c.in_err-checked_mul.ensures (omega arith))))

pub returns-in_err-unit : goal.returns-in_err-unit
unfolding file_byte
returns-in_err-unit c =
    let least = le-mul_of_pos_right (c.args.p / c.args.z * c.args.s + c.args.i) c.requires.0 in
    both c.args.z c.args.s c.args.i c.args.p c.requires.0 c.requires.1 (omega arith) _
    (c.from_residual-in_err-unit.ensures
    ∙ sym (file_byte_none c.args.z c.args.s c.args.i c.args.p
    (λ h. c.in_err-unit.ensures (omega (arith, c.in_ok-checked_mul.ensures)))))

pub returns-in_err-checked_mul-2 : goal.returns-in_err-checked_mul-2
unfolding file_byte
returns-in_err-checked_mul-2 c =
    let unit : c.in_ok-unit.unit ≡ c.args.p / c.args.z * c.args.s + c.args.i
    = omega (arith, c.in_ok-checked_mul.ensures, c.in_ok-unit.ensures) in
    let begin = ap (λ (n : ℕ). n * c.args.z) unit in
    both c.args.z c.args.s c.args.i c.args.p c.requires.0 c.requires.1 (omega arith) _
    (c.from_residual-in_err-checked_mul-2.ensures
    ∙ sym (file_byte_none c.args.z c.args.s c.args.i c.args.p (λ h. c.in_err-checked_mul-2.ensures (omega arith))))

-- A sum that is given if it is below 2^64, where it is the file byte.
given : (z s i p n : ℕ) (r : Option ℕ) → n ≡ file_byte z s i p → SomeIff r (n < 2 ^ 64) n → r ≡ file_byte_below z s i p
given z s i p n None e h = sym (file_byte_none z s i p (λ k. h (omega arith)))
given z s i p n (Some b) e h = ap Some (h.1 ∙ e) ∙ sym (file_byte_some z s i p (omega (arith, h.0)))

pub returns : goal.returns
unfolding file_byte
returns c =
    let unit : c.in_ok-unit.unit ≡ c.args.p / c.args.z * c.args.s + c.args.i
    = omega (arith, c.in_ok-checked_mul.ensures, c.in_ok-unit.ensures) in
    let begin : c.in_ok-checked_mul-2.field-0 ≡ (c.args.p / c.args.z * c.args.s + c.args.i) * c.args.z
    = omega (arith, ap (λ (n : ℕ). n * c.args.z) unit, c.in_ok-checked_mul-2.ensures) in
    both c.args.z c.args.s c.args.i c.args.p c.requires.0 c.requires.1 (omega arith) _
    (given c.args.z c.args.s c.args.i c.args.p (c.in_ok-checked_mul-2.field-0 + c.args.p % c.args.z) _ (omega arith)
    (search rules))
