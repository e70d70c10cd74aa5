-- The position of the first failed test, beside the number of tests.
use Rattle.std.specs.Prelude.{ℕ, ◌≡◌, List, Bool, eqb, length}
use Rattle.std.proofs.Common.{◌∙◌, arith, eq-eqb, ne_eqb}
use Rattle.lists.specs.Bools.{bool_cases, clash}
use Rattle.lists.specs.Tests.{every, first_failed, none_failed, every_failed}

pub failed_every : (ts : List Bool) (r n : ℕ) → r ≡ first_failed ts → length ts ≡ n → eqb r n ≡ every ts
failed_every ts r n p q = bool_cases (every ts)
    (λ e. rw e (eq-eqb r n (p ∙ every_failed ts e ∙ q)))
    (λ e. rw e (ne_eqb r n (λ h. clash (none_failed ts (omega arith)) e)))
