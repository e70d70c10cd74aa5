-- The laws of grants and of new ids. What is in quotes is document 01's.
use Rattle.std.specs.Prelude.{ℕ, zero, suc, ◌+◌, ◌-◌, ◌≤◌, ◌<◌, min, ◌≡◌, refl, List, [], ◌∷◌, Bool, true, false, leb, eqb, length}
use Rattle.std.proofs.Common.{arith, add-one, leb-true, leb-false, eqb-true, le-leb, ne_eqb}
use Rattle.std.proofs.lemmas.Bool.{eqb-false, lt-leb}
use Rattle.lists.specs.Bools.{cond_elim, bool_cases}
use Rattle.lists.specs.Counting.{bit, elem, count, elem_false, elem_true}
use Rattle.layout.specs.declared.Component.{Component}
use Rattle.growth_rules.specs.Parts.{reach, id_from, fresh_id}

-- "A grant moves the lower of X's extension size and X's length from X's head."
pub grant_length : (x : Component) → x.begin ≤ x.end
    → reach x.begin x ≡ x.begin + min x.extension_size (x.end - x.begin)
grant_length x h = omega arith

-- How many numbers of a list are k or more.
abbrev above : ℕ → List ℕ → ℕ
above k [] = 0
above k (a ∷ ids) = bit (leb k a) + above k ids

-- They are those that are k + 1 or more, and those that are k: of one number, and of a list.
above_one : (k a : ℕ) → bit (leb k a) ≡ bit (leb (suc k) a) + bit (eqb k a)
above_one k a =
    bool_cases (leb k a)
    (λ p. let h = leb-true k a p in
    bool_cases (eqb k a) (λ q. let e = eqb-true k a q in rw (p, q, lt-leb (suc k) a (omega arith)))
    (λ q. rw (p, q, le-leb (suc k) a (omega (arith, eqb-false k a q)))))
    (λ p. let h = leb-false k a p in rw (p, lt-leb (suc k) a (omega arith), ne_eqb k a (λ e. omega arith)))

above_next : (k : ℕ) (ids : List ℕ) → above k ids ≡ above (suc k) ids + count eqb k ids
above_next k [] = refl
above_next k (a ∷ ids) = omega (arith, above_one k a, above_next k ids)

-- A test counts at most 1.
bit_le : (b : Bool) → bit b ≤ 1
bit_le true = omega arith
bit_le false = omega arith

-- They are at most as many as the list has numbers.
above_few : (k : ℕ) (ids : List ℕ) → above k ids ≤ length ids
above_few k [] = omega arith
above_few k (a ∷ ids) = omega (arith, bit_le (leb k a), above_few k ids)

-- The number r is the smallest from k on that is none of the ids: it is none of them, and each number from k on below it is one.
pub record FirstFree (k : ℕ) (ids : List ℕ) (r : ℕ) : Type 0 where
  pub from : k ≤ r
  pub unused : count eqb r ids ≡ 0
  pub smallest : (m : ℕ) → k ≤ m → m < r → elem eqb m ids ≡ true

-- Such a number is found if at most n of the ids are k or more.
first_free : (n k : ℕ) (ids : List ℕ) → above k ids ≤ n → FirstFree k ids (id_from n k ids)
first_free zero k ids h =
    record { from = omega arith; unused = omega (arith, above_next k ids); smallest = λ m p q. absurd (omega arith) }
first_free (suc n) k ids h =
    cond_elim (FirstFree k ids) (elem eqb k ids)
    (λ e. let r = first_free n (k + 1) ids (rw add-one (omega (arith, above_next k ids, elem_true eqb k ids e))) in
    record {
      from = omega (arith, r.from);
      unused = r.unused;
      smallest = λ m p q.
          bool_cases (eqb m k) (λ s. rw (eqb-true m k s) e)
          (λ s. r.smallest m (omega (arith, eqb-false m k s)) q);
    })
    (λ e. record { from = omega arith; unused = elem_false eqb k ids e; smallest = λ m p q. absurd (omega arith) })

-- "the smallest from 1 that no component of the layout handed in has"
pub fresh_id_lem : (ids : List ℕ) → FirstFree 1 ids (fresh_id ids)
unfolding fresh_id
fresh_id_lem ids = first_free (length ids) 1 ids (above_few 1 ids)
