-- The test of the last component: of the tests of a list, only the last can fail.
use Rattle.std.specs.Prelude.{ℕ, zero, suc, ◌-◌, ◌≡◌, List, [], ◌∷◌, Some, None, Bool, cond, not, ◌||◌, length}
use Rattle.std.specs.Prelude.{slice_get}
use Rattle.std.proofs.Common.{refl, arith}
use Rattle.std.proofs.lemmas.Option.{slice_get-get_or}
use Rattle.lists.specs.Bools.{bool_cases}
use Rattle.lists.specs.Tests.{first_failed, found}
use Rattle.lists.proofs.Found.{found_suc}
use Rattle.layout.specs.declared.Neighbour.{Neighbour}
use Rattle.layout.specs.Records.{no_neighbour}
use Rattle.layout.specs.Neighbours.{is_empty, last_tests}

module _ (more : Bool) where
  -- A list with no last component is empty, and no test fails.
  pub last_none : (l : List Neighbour) → None ≡ slice_get l (length l - 1)
      → None ≡ found (first_failed (last_tests more l)) (length l)
  last_none [] e = refl
  last_none (x ∷ l) e =
      let s : slice_get (x ∷ l) (length (x ∷ l) - 1) ≡ Some _ =
      slice_get-get_or (x ∷ l) (length (x ∷ l) - 1) no_neighbour (omega arith) in
      absurd cc

  last_at : (c : Neighbour) (l : List Neighbour) (k : ℕ) → length l ≡ suc k → Some c ≡ slice_get l k
      → cond (more || not (is_empty c.begin c.end)) None (Some k) ≡ found (first_failed (last_tests more l)) (length l)
  last_at c [] k h e = absurd (omega arith)
  last_at c (x ∷ []) zero h e =
      let q : c ≡ x = cc in
      rw q (bool_cases (more || not (is_empty x.begin x.end)) (λ p. rw p) (λ p. rw p))
  last_at c (x ∷ []) (suc k) h e = absurd (omega arith)
  last_at c (x ∷ y ∷ l) zero h e = absurd (omega arith)
  last_at c (x ∷ y ∷ l) (suc k) h e =
      let t = more || not (is_empty c.begin c.end) in
      rw (found_suc, ← last_at c (y ∷ l) k (omega arith) e) (bool_cases t (λ p. rw p) (λ p. rw p))

  pub last_some : (c : Neighbour) (l : List Neighbour) → Some c ≡ slice_get l (length l - 1)
      → cond (more || not (is_empty c.begin c.end)) None (Some (length l - 1))
      ≡ found (first_failed (last_tests more l)) (length l)
  last_some c [] e = absurd cc
  last_some c (x ∷ l) e = last_at c (x ∷ l) (length (x ∷ l) - 1) (omega arith) e
