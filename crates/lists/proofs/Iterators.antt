-- What `any`, `all` and `position` answer over a list, in the words of Tests: the closure computes a test of an
-- element.
use Rattle.std.specs.Prelude.{ℕ, ◌≡◌, refl, List, [], ◌∷◌, Option, Some, None, Bool, true, false, ◌&&◌, ◌||◌, length}
use Rattle.std.specs.List.{list_any, list_all, position_or_len, FoldsTo}
use Rattle.std.specs.Fn.{Called}
use Rattle.std.specs.Iterator.{YieldsThen}
use Rattle.std.specs.Option.{MatchOption}
use Rattle.std.proofs.Common.{ap, ◌∙◌, arith}
use Rattle.std.proofs.lemmas.Iterator.{YieldsList}
use Rattle.std.proofs.lemmas.Iterator.Search.{any_from_yields_List, all_from_yields_List, position_from_yields_List}
use denote.Param.Members.{Mut}
use Rattle.lists.specs.Bools.{bool_cases}
use Rattle.lists.specs.Tests.{every, each, any_of, first_that, found}

pub list_any-any_of : {A : Type 0} (ok : A → Bool) (l : List A) → list_any ok l ≡ any_of ok l
list_any-any_of ok [] = refl
list_any-any_of ok (a ∷ l) = ap (λ (t : Bool). ok a || t) (list_any-any_of ok l)

pub list_all-every : {A : Type 0} (ok : A → Bool) (l : List A) → list_all ok l ≡ every (each ok l)
list_all-every ok [] = refl
list_all-every ok (a ∷ l) = ap (λ (t : Bool). ok a && t) (list_all-every ok l)

pub position_or_len-first_that : {A : Type 0} (ok : A → Bool) (l : List A) → position_or_len ok l ≡ first_that ok l
position_or_len-first_that ok [] = refl
position_or_len-first_that ok (a ∷ l) = bool_cases (ok a) (λ e. rw e refl)
    (λ e. rw e (let e = position_or_len-first_that ok l in omega (arith, e)))

-- Each lemma takes the test, three `_`, the call's clause `ran`, the chain proof, and `λ x b q k. search (rules,
-- tests)`.
module _ {S A B F : Type 0} {steps : S → Option A → S → Type 0} {v : A → B} {g : Mut F (A × Unit {0}) Bool} {s : S}
    {all : List B} (test : B → Bool) (u : S) (f : F) where
  pub any_of-any : (r : Bool) → (xs : List A) × (o : Option A) × (j : F) × YieldsThen steps s xs o u
      × FoldsTo (λ p x q. Called g p (x, tt) false q) f xs j
      × MatchOption o (r ≡ false) (λ x. (r ≡ true) × ((h : F) × Called g j (x, tt) true h))
      → YieldsList steps v s all → ((x : A) (b : Bool) (q : F) → Called g f (x, tt) b q → (q ≡ f) × (b ≡ test (v x)))
      → r ≡ any_of test all
  any_of-any r ran ys k = any_from_yields_List test u f r ran ys k ∙ list_any-any_of test all

  pub every-all : (r : Bool) → (xs : List A) × (o : Option A) × (j : F) × YieldsThen steps s xs o u
      × FoldsTo (λ p x q. Called g p (x, tt) true q) f xs j
      × MatchOption o (r ≡ true) (λ x. (r ≡ false) × ((h : F) × Called g j (x, tt) false h))
      → YieldsList steps v s all → ((x : A) (b : Bool) (q : F) → Called g f (x, tt) b q → (q ≡ f) × (b ≡ test (v x)))
      → r ≡ every (each test all)
  every-all r ran ys k = all_from_yields_List test u f r ran ys k ∙ list_all-every test all

  pub found-position : (r : Option ℕ) → (xs : List A) × (o : Option A) × (j : F) × YieldsThen steps s xs o u
      × FoldsTo (λ p x q. Called g p (x, tt) false q) f xs j
      × MatchOption o (r ≡ None) (λ x. (r ≡ Some (length xs)) × ((h : F) × Called g j (x, tt) true h))
      → YieldsList steps v s all → ((x : A) (b : Bool) (q : F) → Called g f (x, tt) b q → (q ≡ f) × (b ≡ test (v x)))
      → r ≡ found (first_that test all) (length all)
  found-position r ran ys k =
      position_from_yields_List test u f r ran ys k ∙ ap (λ (i : ℕ). found i (length all))
      (position_or_len-first_that test all)
