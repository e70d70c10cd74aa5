-- The tests of the component rules give the facts, and the facts give the tests back; and what is common to the kinds of
-- component.
use Rattle.std.specs.Prelude.{ℕ, ◌≤◌, ◌<◌, ◌%◌, ◌≡◌, refl, List, [], ◌∷◌, Bool, true, cond, ◌&&◌, ◌||◌, leb, ℤ, pos, negsuc, length, get_or}
use Rattle.std.proofs.Common.{ap, ◌∙◌, true≢false, arith}
use Rattle.std.proofs.Math.Bool.{false, not}
use Rattle.std.proofs.lemmas.Bool.{false≢true}
use Rattle.std.proofs.Math.Dec.{ltb, eqb}
use borrow.Author.Tests.{ltb-true, leb-true, eqb-true, not-true, lt-ltb, le-leb, eq-eqb}
use Rattle.lists.specs.Bools.{bool_cases, clash, both_true, true_both, implies_true, true_implies, beq_true, true_beq}
use Rattle.lists.specs.Tests.{every, along, each, each_at, at_each, conjunction_at}
use Rattle.lists.proofs.CountingLaws.{fresh_count, count_fresh}
use Rattle.layout.specs.declared.Object.{Object}
use Rattle.layout.specs.declared.Component.{Component}
use Rattle.layout.specs.declared.Layout.{Layout}
use Rattle.layout.specs.Records.{no_object, neighbour_of, neighbours_of, record_count, ids_of, records_of, records_in, view}
use Rattle.layout.specs.Fields.{nonzero_multiple, extension_ok, striped_ok, kind_ok, is_minus_one, is_target, first_target_ok, target_ok}
use Rattle.layout.specs.Fields.{fields_ok, field_tests}
use Rattle.layout.specs.Neighbours.{begins_at, end_of, begin_tests, follows_ok, may_follow, follow_tests, is_empty, empty_ok}
use Rattle.layout.specs.Neighbours.{empty_tests, last_ok, last_tests, neighbours_hold}
use Rattle.layout.specs.Distinct.{same_object, id_tests, object_tests, distinct_hold}
use Rattle.layout.specs.Rules.{rule_broken, valid}
use Rattle.layout.specs.Facts.{NonzeroMultiple, Striped, IsInit, IsExtension, Kind, is_init, is_extension, is_bare}
use Rattle.layout.specs.Facts.{Fields, Follower, Linked, Keeps, Valid}

-- Two object records that name the same target and number are the same.
pub same_object_lem : (a b : Object) → same_object a b ≡ true → a ≡ b
unfolding same_object
same_object_lem a b e =
    let p = both_true (eqb a.target b.target) (eqb a.number b.number) e in
    let t = eqb-true a.target b.target p.0 in
    let n = eqb-true a.number b.number p.1 in
    λ i. record { target = t i; number = n i }

-- An object record names the same target and number as itself.
pub same_object_refl : (a : Object) → same_object a a ≡ true
unfolding same_object
same_object_refl a = rw (eq-eqb a.target a.target refl, eq-eqb a.number a.number refl)

-- The test of a nonzero multiple of 65,536, both ways.
multiple_facts : (n : ℕ) → nonzero_multiple n ≡ true → NonzeroMultiple n
unfolding nonzero_multiple
multiple_facts n e =
    let p = both_true (ltb 0 n) (eqb (n % 65536) 0) e in
    record { nonzero = ltb-true 0 n p.0; multiple = eqb-true (n % 65536) 0 p.1 }

facts_multiple : (n : ℕ) → NonzeroMultiple n → nonzero_multiple n ≡ true
unfolding nonzero_multiple
facts_multiple n u = rw (lt-ltb 0 n u.nonzero, u.multiple)

-- The test of the first target if a component is not init, both ways.
minus_one : (t : Bool) (z : ℤ) (os : List Object) → t ≡ false → first_target_ok t z os ≡ true → z ≡ negsuc 0
unfolding first_target_ok is_minus_one
minus_one true z os h e = absurd (true≢false h)
minus_one false (pos n) os h e = absurd (false≢true e)
minus_one false (negsuc n) os h e = ap negsuc (eqb-true n 0 e)

minus_one_test : (t : Bool) (z : ℤ) (os : List Object) → t ≡ false → z ≡ negsuc 0 → first_target_ok t z os ≡ true
unfolding first_target_ok is_minus_one
minus_one_test t z os h e = rw (h, e)

-- The test of the first target of an init component, both ways.
first_target : (t : Bool) (z : ℤ) (os : List Object) → t ≡ true → first_target_ok t z os ≡ true
    → z ≡ pos (get_or os 0 no_object).target
unfolding first_target_ok is_target
first_target false z os h e = absurd (false≢true h)
first_target true z [] h e = absurd (false≢true e)
first_target true (pos n) (o ∷ os) h e = ap pos (eqb-true n o.target e)
first_target true (negsuc n) (o ∷ os) h e = absurd (false≢true e)

first_target_test : (t : Bool) (z : ℤ) (os : List Object) → t ≡ true → 1 ≤ length os → z ≡ pos (get_or os 0 no_object).target
    → first_target_ok t z os ≡ true
unfolding first_target_ok is_target
first_target_test t z [] h k e = absurd (omega arith)
first_target_test t z (o ∷ os) h k e = rw (h, e) (eq-eqb o.target o.target refl)

module _ (c : Component) where
  -- The test of the stripe fields of a component that is not an extension, both ways.
  abbrev striped_test : Bool
  striped_test = striped_ok c.init c.begin c.end c.stripe_count c.stripe_size c.extension_size

  striped_facts : striped_test ≡ true → Striped c × (c.init ≡ true → c.begin < c.end)
  unfolding striped_ok
  striped_facts e =
      let n = c.stripe_count in
      let u = nonzero_multiple c.stripe_size in
      let x = eqb c.extension_size 0 in
      let i = not c.init || ltb c.begin c.end in
      let p = conjunction_at (leb 1 n) (leb n 16 ∷ u ∷ x ∷ i ∷ []) e in (
        record {
          some = leb-true 1 n (p 0);
          few = leb-true n 16 (p 1);
          size = multiple_facts c.stripe_size (p 2);
          no_extension = eqb-true c.extension_size 0 (p 3);
        },
        λ t. ltb-true c.begin c.end (implies_true c.init (ltb c.begin c.end) (p 4) t),
      )

  facts_striped : Striped c → (c.init ≡ true → c.begin < c.end) → striped_test ≡ true
  unfolding striped_ok
  facts_striped s h = rw (
    le-leb 1 c.stripe_count s.some,
    le-leb c.stripe_count 16 s.few,
    facts_multiple c.stripe_size s.size,
    s.no_extension,
  ) (true_implies c.init (ltb c.begin c.end) (λ t. lt-ltb c.begin c.end (h t)))

  -- The test of the fields that differ between an extension and any other.
  abbrev kind_test : Bool
  kind_test = kind_ok c.extension c.init c.begin c.end c.stripe_count c.stripe_size c.extension_size

  -- The test of the first target.
  abbrev first_test : Bool
  first_test = first_target_ok c.init c.first_target (records_of c)

  -- The tests of the fields, if the component is init.
  init_kind : c.init ≡ true → c.extension ≡ false → kind_test ≡ true → first_test ≡ true
      → every (each target_ok (records_of c)) ≡ true → length (records_of c) ≡ record_count c → Kind c
  unfolding kind_ok
  init_kind i x k f t n =
      let s = striped_facts (rw x at k) in
      is_init
      record {
        init = i;
        extension = x;
        striped = s.0;
        extent = s.1 i;
        records = n ∙ rw i;
        first = first_target c.init c.first_target (records_of c) i f;
        targets = λ j h. leb-true (get_or (records_of c) j no_object).target 65534 (each_at target_ok no_object (records_of c) t j h);
      }

  -- The tests of the fields, if it is not.
  other_kind : c.init ≡ false → leb c.begin c.end ≡ true → kind_test ≡ true → first_test ≡ true → Kind c
  unfolding kind_ok extension_ok
  other_kind i b k f =
      let z = minus_one c.init c.first_target (records_of c) i f in
      bool_cases c.extension
      (λ x. let n = eqb c.stripe_count 0 in
      let s = eqb c.stripe_size 0 in
      let p = conjunction_at (ltb c.begin c.end) (n ∷ s ∷ nonzero_multiple c.extension_size ∷ []) (rw x at k) in
      is_extension
      record {
        init = i;
        extension = x;
        extent = ltb-true c.begin c.end (p 0);
        no_stripes = eqb-true c.stripe_count 0 (p 1);
        no_size = eqb-true c.stripe_size 0 (p 2);
        size = multiple_facts c.extension_size (p 3);
        first = z;
      })
      (λ x. is_bare
      record {
        init = i;
        extension = x;
        striped = (striped_facts (rw x at k)).0;
        extent = leb-true c.begin c.end b;
        first = z;
      })

-- The tests of a component's fields, passed, say that its id is at least 1 and of which kind it is.
pub kind_facts : (c : Component) → fields_ok c ≡ true → (1 ≤ c.id) × Kind c
unfolding fields_ok
kind_facts c e =
    let b = leb c.begin c.end in
    let x = not (c.init && c.extension) in
    let t = every (each target_ok (records_of c)) in
    let n = eqb (length (records_of c)) (record_count c) in
    let p = conjunction_at (leb 1 c.id) (b ∷ x ∷ kind_test c ∷ first_test c ∷ t ∷ n ∷ []) e in (
      leb-true 1 c.id (p 0),
      bool_cases c.init
          (λ i. init_kind c i (not-true c.extension (rw i at (p 2))) (p 3) (p 4) (p 5)
          (eqb-true (length (records_of c)) (record_count c) (p 6)))
          (λ i. other_kind c i (p 1) (p 3) (p 4)),
    )

-- A component never ends before it begins.
pub kind_ordered : {c : Component} → Kind c → c.begin ≤ c.end
kind_ordered (is_init k) = omega arith
kind_ordered (is_extension k) = omega arith
kind_ordered (is_bare k) = k.extent

-- No component has more than 16 stripes.
pub kind_few : {c : Component} → Kind c → c.stripe_count ≤ 16
kind_few (is_init k) = k.striped.few
kind_few (is_extension k) = omega arith
kind_few (is_bare k) = k.striped.few

-- A component whose init flag is set is an init component.
pub kind_init : {c : Component} → Kind c → c.init ≡ true → IsInit c
kind_init (is_init k) i = k
kind_init (is_extension k) i = clash i k.init
kind_init (is_bare k) i = clash i k.init

-- A component whose extension flag is set is an extension.
pub kind_extension : {c : Component} → Kind c → c.extension ≡ true → IsExtension c
kind_extension (is_init k) x = clash x k.extension
kind_extension (is_extension k) x = k
kind_extension (is_bare k) x = clash x k.extension

-- A component has as many object records as it is to have.
pub kind_records : {c : Component} → Kind c → length (records_of c) ≡ record_count c
kind_records (is_init k) = k.records ∙ rw k.init
kind_records (is_extension k) = rw k.init
kind_records (is_bare k) = rw k.init

-- The tests of a component's fields pass for each kind.
not_both : {c : Component} → Kind c → not (c.init && c.extension) ≡ true
not_both (is_init k) = rw (k.init, k.extension)
not_both (is_extension k) = rw k.init
not_both (is_bare k) = rw k.init

kind_test_lem : {c : Component} → Kind c → kind_test c ≡ true
unfolding kind_ok extension_ok
kind_test_lem {c} (is_init k) = rw k.extension (facts_striped c k.striped (λ i. k.extent))
kind_test_lem {c} (is_extension k) =
    rw (k.extension, lt-ltb c.begin c.end k.extent, k.no_stripes, k.no_size)
    (facts_multiple c.extension_size k.size)
kind_test_lem {c} (is_bare k) = rw k.extension (facts_striped c k.striped (λ i. clash i k.init))

first_test_lem : {c : Component} → Kind c → first_test c ≡ true
first_test_lem {c} (is_init k) =
    first_target_test c.init c.first_target (records_of c) k.init (omega (arith, k.records, k.striped.some)) k.first
first_test_lem {c} (is_extension k) = minus_one_test c.init c.first_target (records_of c) k.init k.first
first_test_lem {c} (is_bare k) = minus_one_test c.init c.first_target (records_of c) k.init k.first

targets_test : {c : Component} → Kind c → every (each target_ok (records_of c)) ≡ true
targets_test {c} (is_init k) =
    at_each target_ok no_object (records_of c) (λ i h. le-leb (get_or (records_of c) i no_object).target 65534 (k.targets i h))
targets_test (is_extension k) = rw k.init
targets_test (is_bare k) = rw k.init

-- A component of one of the three kinds with an id of at least 1 passes the tests of its fields.
pub facts_kind : (c : Component) → 1 ≤ c.id → Kind c → fields_ok c ≡ true
unfolding fields_ok
facts_kind c h k =
    rw (le-leb 1 c.id h, le-leb c.begin c.end (kind_ordered k), not_both k, kind_test_lem k, first_test_lem k, targets_test k)
    (eq-eqb (length (records_of c)) (record_count c) (kind_records k))

-- A list whose field tests pass has the facts of its fields.
pub fields_facts : (cs : List Component) → every (field_tests cs) ≡ true → Fields cs
fields_facts [] e = tt
fields_facts (c ∷ cs) e =
    let p = both_true (fields_ok c) (every (field_tests cs)) e in
    let k = kind_facts c p.0 in (k.0, k.1, fields_facts cs p.1)

-- A list with the facts of its fields passes the field tests.
pub facts_fields : (cs : List Component) → Fields cs → every (field_tests cs) ≡ true
facts_fields [] f = refl
facts_fields (c ∷ cs) f = true_both (facts_kind c f.0 f.1) (facts_fields cs f.2)

-- The third and the fourth part of the neighbour rule for one component and what follows it, both ways.
follower_facts : (more : Bool) (c : Component) (cs : List Component) → empty_ok (neighbour_of c) (neighbours_of cs) ≡ true → last_ok more (neighbour_of c) (neighbours_of cs) ≡ true
    → Follower more c cs
follower_facts more c [] e l = λ m. not-true (is_empty c.begin c.end) (rw m at l)
follower_facts more c (d ∷ cs) e l = λ i. beq_true (is_empty c.begin c.end) d.extension (rw i at e)

facts_empty : (more : Bool) (c : Component) (cs : List Component) → Follower more c cs → empty_ok (neighbour_of c) (neighbours_of cs) ≡ true
facts_empty more c [] f = refl
facts_empty more c (d ∷ cs) f = bool_cases c.init (λ i. rw i) (λ i. rw (i, f i) (true_beq d.extension))

facts_last : (more : Bool) (c : Component) (cs : List Component) → Follower more c cs → last_ok more (neighbour_of c) (neighbours_of cs) ≡ true
facts_last true c [] f = refl
facts_last false c [] f = ap not (f refl)
facts_last more c (d ∷ cs) f = refl

module _ (more : Bool) where
  -- The four parts for a list, both ways: the component before it ends at `at`, and `may` says that an extension may be first.
  linked_from : (at : ℕ) (may : Bool) (cs : List Component) → every (along begins_at end_of at (neighbours_of cs)) ≡ true
      → every (along follows_ok may_follow may (neighbours_of cs)) ≡ true → every (empty_tests (neighbours_of cs)) ≡ true → every (last_tests more (neighbours_of cs)) ≡ true
      → Linked more at may cs
  linked_from at may [] b f e l = tt
  linked_from at may (c ∷ cs) b f e l =
      let b' = both_true (eqb c.begin at) (every (along begins_at end_of c.end (neighbours_of cs))) b in
      let f' = both_true (not c.extension || may) (every (along follows_ok may_follow (not c.extension) (neighbours_of cs))) f in
      let e' = both_true (empty_ok (neighbour_of c) (neighbours_of cs)) (every (empty_tests (neighbours_of cs))) e in
      let l' = both_true (last_ok more (neighbour_of c) (neighbours_of cs)) (every (last_tests more (neighbours_of cs))) l in (
        eqb-true c.begin at b'.0,
        implies_true c.extension may f'.0,
        follower_facts more c cs e'.0 l'.0,
        linked_from c.end (not c.extension) cs b'.1 f'.1 e'.1 l'.1,
      )

  from_linked : (at : ℕ) (may : Bool) (cs : List Component) → Linked more at may cs
      → (every (along begins_at end_of at (neighbours_of cs)) ≡ true) × (every (along follows_ok may_follow may (neighbours_of cs)) ≡ true)
      × (every (empty_tests (neighbours_of cs)) ≡ true) × (every (last_tests more (neighbours_of cs)) ≡ true)
  from_linked at may [] k = (refl, refl, refl, refl)
  from_linked at may (c ∷ cs) k =
      let r = from_linked c.end (not c.extension) cs k.3 in (
        true_both (eq-eqb c.begin at k.0) r.0,
        true_both (true_implies c.extension may k.1) r.1,
        true_both (facts_empty more c cs k.2) r.2,
        true_both (facts_last more c cs k.2) r.3,
      )

  -- A list of which the neighbour rule holds has the facts of its neighbours.
  pub linked_facts : (cs : List Component) → neighbours_hold more (neighbours_of cs) ≡ true → Linked more 0 false cs
  unfolding neighbours_hold
  linked_facts cs e =
      let f = every (follow_tests (neighbours_of cs)) in
      let p = conjunction_at (every (begin_tests (neighbours_of cs))) (f ∷ every (empty_tests (neighbours_of cs)) ∷ every (last_tests more (neighbours_of cs)) ∷ []) e in
      linked_from 0 false cs (p 0) (p 1) (p 2) (p 3)

  -- The neighbour rule holds of a list with the facts of its neighbours.
  pub facts_linked : (cs : List Component) → Linked more 0 false cs → neighbours_hold more (neighbours_of cs) ≡ true
  unfolding neighbours_hold
  facts_linked cs k =
      let p = from_linked 0 false cs k in true_both (true_both (true_both p.0 p.1) p.2) p.3

-- The number of the broken rule is 0 only if all three tests pass.
none_broken : (a b c : Bool) → cond {A = ℕ} a (cond b (cond c 0 8) 7) 6 ≡ 0 → (a ≡ true) × (b ≡ true) × (c ≡ true)
none_broken true true true e = (refl, refl, refl)
none_broken true true false e = absurd (omega arith)
none_broken true false c e = absurd (omega arith)
none_broken false b c e = absurd (omega arith)

-- Of a list that breaks no rule, all three rules hold.
pub rules_hold : (more : Bool) (cs : List Component) → rule_broken more cs ≡ 0
    → (every (field_tests cs) ≡ true) × (neighbours_hold more (neighbours_of cs) ≡ true) × (distinct_hold cs ≡ true)
unfolding rule_broken
rules_hold more cs e = none_broken (every (field_tests cs)) (neighbours_hold more (neighbours_of cs)) (distinct_hold cs) e

-- A list that breaks no rule keeps the component rules.
pub keeps_facts : (more : Bool) (cs : List Component) → rule_broken more cs ≡ 0 → Keeps more cs
unfolding distinct_hold
keeps_facts more cs e =
    let p = rules_hold more cs e in
    let d = both_true (every (id_tests cs)) (every (object_tests cs)) p.2 in
    record {
      fields = fields_facts cs p.0;
      linked = linked_facts more cs p.1;
      ids = fresh_count eqb eqb-true (ids_of cs) d.0;
      objects = fresh_count same_object same_object_lem (records_in cs) d.1;
    }

-- A list that keeps the component rules breaks none.
pub facts_keep : (more : Bool) (cs : List Component) → Keeps more cs → rule_broken more cs ≡ 0
unfolding rule_broken distinct_hold
facts_keep more cs k =
    rw (
      facts_fields cs k.fields,
      facts_linked more cs k.linked,
      count_fresh eqb (λ i. eq-eqb i i refl) (ids_of cs) k.ids,
      count_fresh same_object same_object_refl (records_in cs) k.objects,
    )

-- A layout that passes the test of validity is valid.
pub valid_facts : (l : Layout) → valid l ≡ true → Valid l
unfolding valid
valid_facts l e =
    let n = l.count in
    let broken = rule_broken false (view l) in
    let p = conjunction_at l.complete (leb 1 n ∷ leb n 16 ∷ eqb (length (view l)) n ∷ eqb broken 0 ∷ []) e in
    record {
      complete = p 0;
      some = leb-true 1 n (p 1);
      few = leb-true n 16 (p 2);
      whole = eqb-true (length (view l)) n (p 3);
      keeps = keeps_facts false (view l) (eqb-true broken 0 (p 4));
    }

-- A valid layout passes the test of validity.
pub facts_valid : (l : Layout) → Valid l → valid l ≡ true
unfolding valid
facts_valid l v =
    rw (
      v.complete,
      le-leb 1 l.count v.some,
      le-leb l.count 16 v.few,
      eq-eqb (length (view l)) l.count v.whole,
      facts_keep false (view l) v.keeps,
    )

-- Is an extension first?
abbrev pub starts_extension : List Component → Bool
starts_extension [] = false
starts_extension (c ∷ cs) = c.extension

-- With no pages outstanding, a component that is not init is empty exactly if an extension directly follows.
pub follower_empty : (c : Component) (cs : List Component) → Follower false c cs → c.init ≡ false
    → is_empty c.begin c.end ≡ starts_extension cs
follower_empty c [] f i = f refl
follower_empty c (d ∷ cs) f i = f i
