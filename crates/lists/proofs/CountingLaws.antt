-- Lists whose elements all differ: the tests pass exactly if nothing counts twice.
use Rattle.std.specs.Prelude.{◌≤◌, ◌≡◌, refl, List, [], ◌∷◌, ◌++◌, Bool, true, not}
use Rattle.std.proofs.Common.{ap, arith}
use Rattle.std.proofs.lemmas.Bool.{not-true}
use Rattle.std.proofs.Math.Seq.{append_snoc}
use Rattle.lists.specs.Bools.{bool_cases, both_true}
use Rattle.lists.specs.Tests.{every, along}
use Rattle.lists.specs.Counting.{bit, seen_with, elem, unseen, fresh, count, count_append, elem_false, elem_true}

module _ {A : Type 0} (same : A → A → Bool) where
  -- If the tests pass, nothing counts twice.
  module _ (same-eq : (x y : A) → same x y ≡ true → x ≡ y) where
    fresh_along : (seen l : List A) → every (along (unseen same) seen_with seen l) ≡ true
        → ((x : A) → count same x seen ≤ 1) → (x : A) → count same x (seen ++ l) ≤ 1
    fresh_along seen [] e h x = omega (arith, count_append same x seen [], h x)
    fresh_along seen (a ∷ l) e h x =
        let p = both_true (not (elem same a seen)) (every (along (unseen same) seen_with (seen ++ (a ∷ [])) l)) e in
        let z : count same a seen ≡ 0 = elem_false same a seen (not-true (elem same a seen) p.0) in
        rw (← append_snoc seen a l)
        (fresh_along (seen ++ (a ∷ [])) l p.1
        (λ y. bool_cases (same y a)
        (λ q. let w : count same y seen ≡ count same a seen = ap (λ (v : A). count same v seen) (same-eq y a q) in
        rw count_append (rw q (omega arith)))
        (λ q. rw count_append (rw q (omega (arith, h y)))))
        x)

    pub fresh_count : (l : List A) → every (fresh same l) ≡ true → (x : A) → count same x l ≤ 1
    fresh_count l e x = fresh_along [] l e (λ y. omega arith) x

  -- If nothing counts twice, the tests pass.
  module _ (same_refl : (x : A) → same x x ≡ true) where
    along_count : (seen l : List A) → ((x : A) → count same x (seen ++ l) ≤ 1)
        → every (along (unseen same) seen_with seen l) ≡ true
    along_count seen [] h = refl
    along_count seen (a ∷ l) h = bool_cases (elem same a seen)
        (λ e. let r : bit (same a a) ≡ 1 = rw (same_refl a) in
        absurd (omega (arith, h a, count_append same a seen (a ∷ l), elem_true same a seen e)))
        (λ e. rw e (along_count (seen ++ (a ∷ [])) l (λ x. rw append_snoc (h x))))

    pub count_fresh : (l : List A) → ((x : A) → count same x l ≤ 1) → every (fresh same l) ≡ true
    count_fresh l h = along_count [] l h
