-- A scan of the row that holds object records tells whether these differ.
use Rattle.std.specs.Prelude.{ℕ, ◌≤◌, ◌<◌, ◌≡◌, refl, List, [], ◌∷◌, Option, is_some, Bool, true, false, not, length}
use Rattle.std.specs.Prelude.{take}
use Rattle.std.proofs.Common.{sym, ◌∙◌, arith}
use Rattle.std.proofs.lemmas.List.Edits.{sets}
use Rattle.lists.specs.Tests.{every, first_failed, found, length_along}
use Rattle.lists.specs.Counting.{fresh, unseen, seen_with}
use Rattle.lists.specs.Slices.{take_sets}
use Rattle.lists.proofs.Found.{some_found}
use Rattle.layout.specs.declared.Object.{Object}
use Rattle.layout.specs.Distinct.{same_object}

not_same : (a b : Bool) → not a ≡ not b → a ≡ b
not_same true true e = refl
not_same true false e = absurd cc
not_same false true e = absurd cc
not_same false false e = refl

-- A row with `all` object records stored in its first places has them there.
pub stored : (row row' os : List Object) (all : ℕ) → length os ≤ length row → all ≡ length os → row' ≡ sets row 0 os
    → take all row' ≡ os
stored row row' os all h a t = rw (a, t) (take_sets row os h)

-- What is said of the scan of them: no record equals one before it exactly if all differ.
pub scanned : (os ps : List Object) (r : Option ℕ) (b : Bool) → ps ≡ os
    → r ≡ found (first_failed (fresh same_object ps)) (length ps) → is_some r ≡ not b → b ≡ every (fresh same_object os)
scanned os ps r b w f n =
    let s = some_found (fresh same_object ps) r (length ps) f (length_along (unseen same_object) seen_with [] ps) in
    rw (← w) (not_same b (every (fresh same_object ps)) (sym n ∙ s))

-- Fewer than two elements differ.
pub fresh_few : {A : Type 0} (same : A → A → Bool) (l : List A) → length l < 2 → every (fresh same l) ≡ true
fresh_few same [] h = refl
fresh_few same (a ∷ []) h = refl
fresh_few same (a ∷ b ∷ l) h = absurd (omega arith)
