-- What a whole list of components keeps, its first part keeps with pages outstanding; and if a first part is known to keep
-- the rules with pages outstanding, which tests of the whole list are known to pass.
use Rattle.std.specs.Prelude.{ℕ, zero, suc, ◌-◌, ◌≡◌, refl, List, [], ◌∷◌, ◌++◌, Bool, false, not, eqb, length, drop}
use Rattle.std.proofs.Common.{sym, ap, ◌∙◌, append_assoc, arith, length-append, take-append-drop}
use Rattle.std.proofs.lemmas.List.{map-append}
use Rattle.std.proofs.Math.Bool.{true}
use Rattle.std.proofs.Math.ListN.{take}
use Rattle.std.proofs.Math.Seq.{take-append-add}
use Rattle.lists.specs.Bools.{clash, both_true}
use Rattle.lists.specs.Tests.{every, every_take, take_along, take_each, conjunction_at}
use Rattle.lists.specs.Counting.{unseen, seen_with, count_append}
use Rattle.lists.specs.Slices.{take_map}
use Rattle.layout.specs.declared.Component.{Component}
use Rattle.layout.specs.declared.Neighbour.{Neighbour}
use Rattle.layout.specs.Records.{neighbour_of, neighbours_of, id_of, ids_of, records_of, records_in}
use Rattle.layout.specs.Fields.{fields_ok, field_tests}
use Rattle.layout.specs.Neighbours.{begins_at, end_of, begin_tests, follows_ok, may_follow, follow_tests, empty_ok}
use Rattle.layout.specs.Neighbours.{empty_tests, last_tests, neighbours_hold}
use Rattle.layout.specs.Distinct.{same_object, id_tests, object_tests, distinct_hold}
use Rattle.layout.specs.Rules.{rule_broken}
use Rattle.layout.specs.Facts.{Fields, Follower, Linked, Keeps}
use Rattle.layout.specs.FactLaws.{rules_hold}

-- The object records of two lists of components, one after the other.
pub records_in_append : (xs ys : List Component) → records_in (xs ++ ys) ≡ records_in xs ++ records_in ys
records_in_append [] ys = refl
records_in_append (c ∷ xs) ys = rw (records_in_append xs ys) (sym (append_assoc (records_of c) (records_in xs) (records_in ys)))

-- The object records of the first components are the first object records.
pub records_in_take : (k : ℕ) (cs : List Component)
    → take (length (records_in (take k cs))) (records_in cs) ≡ records_in (take k cs)
records_in_take zero cs = refl
records_in_take (suc k) [] = refl
records_in_take (suc k) (c ∷ cs) = rw (length-append, take-append-add, records_in_take k cs)

-- The facts of a list's fields, of its first part.
fields_prefix : (xs ys : List Component) → Fields (xs ++ ys) → Fields xs
fields_prefix [] ys f = tt
fields_prefix (c ∷ xs) ys f = (f.0, f.1, fields_prefix xs ys f.2)

module _ (more : Bool) where
  -- The facts of a list's neighbours, of its first part.
  follower_prefix : (c : Component) (xs ys : List Component) → Follower more c (xs ++ ys) → Follower true c xs
  follower_prefix c [] ys f = λ e. clash refl e
  follower_prefix c (d ∷ xs) ys f = f

  linked_prefix : (at : ℕ) (may : Bool) (xs ys : List Component) → Linked more at may (xs ++ ys) → Linked true at may xs
  linked_prefix at may [] ys k = tt
  linked_prefix at may (c ∷ xs) ys k =
      (k.0, k.1, follower_prefix c xs ys k.2, linked_prefix c.end (not c.extension) xs ys k.3)

  -- What a list keeps, with pages outstanding or not, its first part keeps with pages outstanding.
  pub keeps_prefix : (xs ys : List Component) → Keeps more (xs ++ ys) → Keeps true xs
  keeps_prefix xs ys k =
      record {
        fields = fields_prefix xs ys k.fields;
        linked = linked_prefix 0 false xs ys k.linked;
        ids = λ i. omega (arith, rw (map-append id_of xs ys, count_append) at (k.ids i));
        objects = λ o. omega (arith, rw (records_in_append xs ys, count_append) at (k.objects o));
      }

  -- The same of the first k components.
  pub keeps_take : (k : ℕ) (cs : List Component) → Keeps more cs → Keeps true (take k cs)
  keeps_take k cs h = keeps_prefix (take k cs) (drop k cs) (rw (take-append-drop k cs) h)

-- The third part looks at a component and its follower, so its first k tests look at k + 1 components.
take_empties : (k : ℕ) (cs : List Neighbour) → take k (empty_tests cs) ≡ take k (empty_tests (take (suc k) cs))
take_empties zero cs = refl
take_empties (suc k) [] = refl
take_empties (suc k) (c ∷ []) = refl
take_empties (suc k) (c ∷ d ∷ cs) = ap (λ (ts : List Bool). empty_ok c (d ∷ cs) ∷ ts) (take_empties k (d ∷ cs))

-- So if the tests pass for the first k components alone, the first k - 1 pass for the whole list.
empties_take : (k : ℕ) (cs : List Neighbour) → every (empty_tests (take k cs)) ≡ true → every (take (k - 1) (empty_tests cs)) ≡ true
empties_take zero cs e = refl
empties_take (suc k) cs e =
    let z : suc k - 1 ≡ k = omega arith in
    rw (z, take_empties k cs) (every_take k (empty_tests (take (suc k) cs)) e)

-- If the first k components are known to break no rule with pages outstanding:
module _ (k : ℕ) (cs : List Component) (e : rule_broken true (take k cs) ≡ 0) where
  -- the first three parts of the neighbour rule hold of them;
  parts : (every (begin_tests (neighbours_of (take k cs))) ≡ true) × (every (follow_tests (neighbours_of (take k cs))) ≡ true)
      × (every (empty_tests (neighbours_of (take k cs))) ≡ true)
  unfolding neighbours_hold
  parts =
      let t = take k cs in
      let f = every (follow_tests (neighbours_of t)) in
      let n = (rules_hold true t e).1 in
      let p = conjunction_at (every (begin_tests (neighbours_of t))) (f ∷ every (empty_tests (neighbours_of t)) ∷ every (last_tests true (neighbours_of t)) ∷ []) n in
      (p 0, p 1, p 2)

  -- the two parts of the rule of distinctness hold of them;
  differ : (every (id_tests (take k cs)) ≡ true) × (every (object_tests (take k cs)) ≡ true)
  unfolding distinct_hold
  differ = both_true (every (id_tests (take k cs))) (every (object_tests (take k cs))) (rules_hold true (take k cs) e).2

  -- the first k components pass the field tests;
  pub prefix_fields : every (take k (field_tests cs)) ≡ true
  prefix_fields = ap every (take_each fields_ok k cs) ∙ (rules_hold true (take k cs) e).0

  -- the first k components begin where they should;
  pub prefix_begins : every (take k (begin_tests (neighbours_of cs))) ≡ true
  prefix_begins = ap every (take_along begins_at end_of k 0 (neighbours_of cs)) ∙ rw (← take_map neighbour_of k cs) parts.0

  -- each extension among the first k components directly follows a component that is not one;
  pub prefix_follows : every (take k (follow_tests (neighbours_of cs))) ≡ true
  prefix_follows = ap every (take_along follows_ok may_follow k false (neighbours_of cs)) ∙ rw (← take_map neighbour_of k cs) parts.1

  -- the first k - 1 components pass the test of emptiness (the k-th is asked only now that its follower is there);
  pub prefix_empties : every (take (k - 1) (empty_tests (neighbours_of cs))) ≡ true
  prefix_empties = empties_take k (neighbours_of cs) (rw (← take_map neighbour_of k cs) parts.2)

  -- each of the first k ids differs from those before it;
  pub prefix_ids : every (take k (id_tests cs)) ≡ true
  prefix_ids = ap every (take_along (unseen eqb) seen_with k [] (ids_of cs)) ∙ rw (← take_map id_of k cs) differ.0

  -- each object record of the first k components differs from those before it.
  pub prefix_objects : every (take (length (records_in (take k cs))) (object_tests cs)) ≡ true
  prefix_objects =
      ap every (take_along (unseen same_object) seen_with (length (records_in (take k cs))) [] (records_in cs))
      ∙ rw (records_in_take k cs) differ.1
