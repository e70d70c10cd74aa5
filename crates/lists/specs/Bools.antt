-- Laws of single tests.
use Rattle.std.specs.Prelude.{◌≡◌, refl, Bool, true, false, not, cond, ◌&&◌, ◌||◌}
use Rattle.std.proofs.Common.{sym, ◌∙◌, true≢false}
use Rattle.std.specs.Bool.{beq}
use Rattle.std.proofs.lemmas.Bool.{false≢true}

-- A choice by a test: what holds of either arm, under the test's value, holds of the choice.
pub cond_elim {ℓ κ} : {A : Type ℓ} (P : A → Type κ) (b : Bool) {x y : A} → (b ≡ true → P x) → (b ≡ false → P y) → P (cond b x y)
cond_elim P true f g = f refl
cond_elim P false f g = g refl

-- A test passes or fails.
pub bool_cases {κ} : {P : Type κ} (b : Bool) → (b ≡ true → P) → (b ≡ false → P) → P
bool_cases true f g = f refl
bool_cases false f g = g refl

-- No test both passes and fails.
pub clash {κ} : {P : Type κ} {b : Bool} → b ≡ true → b ≡ false → P
clash p q = absurd (true≢false (sym p ∙ q))

-- A conjunction passes exactly if both of its tests pass.
pub both_true : (a b : Bool) → (a && b) ≡ true → (a ≡ true) × (b ≡ true)
both_true true b e = (refl, e)
both_true false b e = absurd (false≢true e)

pub true_both : {a b : Bool} → a ≡ true → b ≡ true → (a && b) ≡ true
true_both {a} {b} p q = rw (p, q)

-- A disjunction fails exactly if both of its tests fail.
pub both_false : (a b : Bool) → (a || b) ≡ false → (a ≡ false) × (b ≡ false)
both_false true b e = absurd (true≢false e)
both_false false b e = (refl, e)

-- `not a || b` says that a implies b.
pub implies_true : (a b : Bool) → (not a || b) ≡ true → a ≡ true → b ≡ true
implies_true true b e f = e
implies_true false b e f = absurd (false≢true f)

pub true_implies : (a b : Bool) → (a ≡ true → b ≡ true) → (not a || b) ≡ true
true_implies true b f = f refl
true_implies false b f = refl

-- Two tests are the same test exactly if their comparison passes.
pub beq_true : (a b : Bool) → beq a b ≡ true → a ≡ b
beq_true true true e = refl
beq_true true false e = absurd (false≢true e)
beq_true false true e = absurd (false≢true e)
beq_true false false e = refl

pub true_beq : (b : Bool) → beq b b ≡ true
true_beq true = refl
true_beq false = refl

-- Two tests are the same test if each passes where the other does.
pub same_test : (a b : Bool) → (a ≡ true → b ≡ true) → (b ≡ true → a ≡ true) → a ≡ b
same_test true b f g = sym (f refl)
same_test false true f g = g refl
same_test false false f g = refl
