-- The rules of fields and of neighbours, asked of new components after old ones that keep them, are the rules asked of all.
use Rattle.std.specs.Prelude.{◌<◌, ◌≡◌, refl, Bool, true, false, cond, ◌&&◌, ◌||◌, length}
use Rattle.std.proofs.Math.Path.{sym, ap}
use Rattle.std.proofs.Common.{◌∙◌, arith, eq-eqb, ne_eqb}
use mathlib.Core.List.{List, [], ◌∷◌, ◌++◌, map-append}
use Rattle.std.proofs.Math.Bool.{not, and-true, and_assoc}
use Rattle.std.proofs.Math.Dec.{eqb}
use Rattle.std.proofs.lemmas.List.{length-map}
use Rattle.lists.specs.Bools.{bool_cases, both_true}
use Rattle.lists.specs.Tests.{every, along, ahead, after_append}
use Rattle.layout.specs.declared.Component.{Component}
use Rattle.layout.specs.declared.Neighbour.{Neighbour}
use Rattle.layout.specs.Records.{neighbour_of, neighbours_of}
use Rattle.layout.specs.Fields.{fields_ok, field_tests}
use Rattle.layout.specs.Neighbours.{begins_at, end_of, follows_ok, may_follow, empty_ok, last_ok, may_stand, is_empty, empty_before}
use Rattle.layout.specs.Neighbours.{neighbours_hold}
use Rattle.layout.specs.Distinct.{distinct_hold}
use Rattle.layout.specs.Rules.{rule_broken}
use Rattle.layout.specs.FactLaws.{rules_hold}
use Rattle.in_place.specs.Joining.{none_before, joins, latest, join_tests, last_of, new_join, new_rule_broken}

-- Three tests before four others, or each before its own.
shuffle : (b f e : Bool) (bs fs es ls : Bool) → ((b && f && e) && (bs && fs && es && ls)) ≡ ((b && bs) && (f && fs) && (e && es) && ls)
shuffle true true true bs fs es ls = refl
shuffle true true false true true es ls = refl
shuffle true true false true false es ls = refl
shuffle true true false false fs es ls = refl
shuffle true false e true fs es ls = refl
shuffle true false e false fs es ls = refl
shuffle false f e bs fs es ls = refl

module _ (more : Bool) where
  -- The four parts of the neighbour rule of components after a component, the third and the fourth asked of that one too.
  abbrev parts : Neighbour → List Neighbour → Bool
  parts p cs =
      every (along begins_at end_of p.end cs)
      && every (along follows_ok may_follow (not p.extension) cs)
      && every (ahead empty_ok (p ∷ cs))
      && every (ahead (last_ok more) (p ∷ cs))

  joined_parts : (p : Neighbour) (cs : List Neighbour) → new_join more p cs ≡ parts p cs
  unfolding new_join joins
  joined_parts p [] = sym (and-true (more || not (is_empty p.begin p.end)))
  joined_parts p (c ∷ cs) =
      let j = eqb c.begin p.end
      && may_stand (not p.extension) c.extension
      && empty_before p.init p.begin p.end c.extension in
      let last = last_of c cs in
      and_assoc j (every (join_tests c cs)) (more || not (is_empty last.begin last.end))
      ∙ ap (λ (b : Bool). j && b) (joined_parts c cs)
      ∙ shuffle (eqb c.begin p.end) (may_stand (not p.extension) c.extension)
      (empty_before p.init p.begin p.end c.extension)
      (every (along begins_at end_of c.end cs))
      (every (along follows_ok may_follow (not c.extension) cs))
      (every (ahead empty_ok (c ∷ cs)))
      (every (ahead (last_ok more) (c ∷ cs)))

  -- The neighbour rule of components is that of new ones after none.
  pub neighbours_join : (c : Neighbour) (cs : List Neighbour) → neighbours_hold more (c ∷ cs) ≡ new_join more none_before (c ∷ cs)
  unfolding neighbours_hold
  neighbours_join c cs = sym (joined_parts none_before (c ∷ cs))

-- The tests of two lists, one after the other.
every_join : (p : Neighbour) (xs ys : List Neighbour)
    → every (join_tests p (xs ++ ys)) ≡ (every (join_tests p xs) && every (join_tests (last_of p xs) ys))
every_join p [] ys = refl
every_join p (x ∷ xs) ys =
    ap (λ (b : Bool). joins p x && b) (every_join x xs ys)
    ∙ sym (and_assoc (joins p x) (every (join_tests x xs)) (every (join_tests (last_of x xs) ys)))

every_fields : (xs ys : List Component) → every (field_tests (xs ++ ys)) ≡ (every (field_tests xs) && every (field_tests ys))
every_fields [] ys = refl
every_fields (x ∷ xs) ys =
    ap (λ (b : Bool). fields_ok x && b) (every_fields xs ys)
    ∙ sym (and_assoc (fields_ok x) (every (field_tests xs)) (every (field_tests ys)))

-- Components that keep the neighbour rule with pages outstanding pass the tests after none.
old_join : (xs : List Neighbour) → neighbours_hold true xs ≡ true → every (join_tests none_before xs) ≡ true
unfolding new_join
old_join [] e = refl
old_join (x ∷ xs) e =
    let last = last_of x xs in
    (both_true (every (join_tests none_before (x ∷ xs))) (true || not (is_empty last.begin last.end))
    (sym (neighbours_join true x xs) ∙ e)).0

-- New ones after them: only the new ones are asked.
new_joined : (more : Bool) (xs ys : List Neighbour) → every (join_tests none_before xs) ≡ true → 0 < length ys
    → neighbours_hold more (xs ++ ys) ≡ new_join more (last_of none_before xs) ys
unfolding new_join
new_joined more [] (y ∷ ys) e h = neighbours_join more y ys
new_joined more (x ∷ xs) (y ∷ ys) e h =
    neighbours_join more x (xs ++ (y ∷ ys))
    ∙ rw (every_join none_before (x ∷ xs) (y ∷ ys), e, after_append latest none_before (x ∷ xs) (y ∷ ys))
new_joined more xs [] e h = absurd (omega arith)

module _ (more : Bool) (old new : List Component) (some : 0 < length new) where
  module _ (kept : rule_broken true old ≡ 0) where
    known : (every (field_tests old) ≡ true) × (neighbours_hold true (neighbours_of old) ≡ true)
    known = let r = rules_hold true old kept in (r.0, r.1)

    fields_new : every (field_tests (old ++ new)) ≡ every (field_tests new)
    fields_new = rw (every_fields old new, known.0)

    neighbours_new : neighbours_hold more (neighbours_of (old ++ new))
        ≡ new_join more (last_of none_before (neighbours_of old)) (neighbours_of new)
    neighbours_new =
        rw (map-append neighbour_of old new)
        (new_joined more (neighbours_of old) (neighbours_of new) (old_join (neighbours_of old) known.1)
        (rw (length-map new neighbour_of) some))

    -- The number is the one that the new components give; if they break no rule of fields or of neighbours, only
    -- distinctness is left to be asked.
    rule_is : rule_broken more (old ++ new)
        ≡ cond (eqb (new_rule_broken more old new) 0) (cond (distinct_hold (old ++ new)) 0 8) (new_rule_broken more old new)
    unfolding rule_broken new_rule_broken
    rule_is =
        bool_cases (every (field_tests new))
        (λ e. bool_cases (new_join more (last_of none_before (neighbours_of old)) (neighbours_of new))
        (λ g. rw (fields_new, e, neighbours_new, g))
        (λ g. rw (fields_new, e, neighbours_new, g)))
        (λ e. rw (fields_new, e))

    pub rule_new : 0 < new_rule_broken more old new → rule_broken more (old ++ new) ≡ new_rule_broken more old new
    rule_new h =
        let n = new_rule_broken more old new in
        rule_is ∙ rw (ne_eqb n 0 (λ e. omega arith))

    pub rule_rest : new_rule_broken more old new ≡ 0 → rule_broken more (old ++ new) ≡ cond (distinct_hold (old ++ new)) 0 8
    rule_rest h = rule_is ∙ rw (eq-eqb (new_rule_broken more old new) 0 h)
