-- `in_place::fields::first_target_ok` meets its contract: the first object record is directly after the component.
use Prim.Native.Nat.{◌+◌, ◌<◌}
use mathlib.Core.Path.{◌≡◌, ap, ◌∙◌}
use native.Mathlib.Omega.{arith}
use lib.IntN.{ℤ}
use mir.Syntax.{w32}
use mir.Facts.{to_z-of_z}
use borrow.Author.Rules.{sfits_of}
use Rattle.bytes_le.specs.Numbers.{i32_at}
use Rattle.layout.specs.Fields.{is_minus_one, is_target}
use Rattle.in_place.proofs.FirstRecord.{first_blank, first_missing, first_after}
use Rattle.in_place.proofs.fields.first_target_ok.Goals as goal

pub returns-then-not-init : goal.returns-then-not-init
returns-then-not-init c =
    let i = c.read_at-first in
    let a = c.args in
    let z = i32_at a.s.now (a.at + 12) in
    let e = to_z-of_z {w = w32} (sfits_of i.type_inv) ∙ i.ensures in
    let b = c.if-not-init.true in
    rw (b, first_blank z a.s.now a.at a.n) (c.is_minus_one.ensures ∙ ap is_minus_one e)

pub returns-then-n-eq0 : goal.returns-then-n-eq0
returns-then-n-eq0 c =
    let a = c.args in
    let z = i32_at a.s.now (a.at + 12) in
    let b = c.if-not-init.false in
    let n : a.n ≡ 0 = omega arith in
    rw (b, n, first_missing z a.s.now a.at)

pub returns : goal.returns
returns c =
    let i = c.read_at-first in
    let a = c.args in
    let h : 0 < a.n = omega arith in
    let z = i32_at a.s.now (a.at + 12) in
    let e = to_z-of_z {w = w32} (sfits_of i.type_inv) ∙ i.ensures in
    let b = c.if-not-init.false in
    let t = c.read_at in
    rw (b, first_after z a.s.now a.at a.n h)
    (c.is_target.ensures ∙ ap (λ (y : ℤ). is_target y t.result) e ∙ ap (is_target z) t.ensures)
