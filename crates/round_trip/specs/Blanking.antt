-- Blanking the unused places of a layout's arrays changes no rule: places past a count mean nothing.
use Rattle.std.specs.Prelude.{◌≡◌, refl, List, [], ◌∷◌, map, Bool, true, false, length}
use Rattle.std.proofs.Common.{ap, ◌∙◌, arith}
use Rattle.std.proofs.lemmas.Simd.{map-map}
use Rattle.std.proofs.lemmas.List.{length-map}
use Rattle.layout.specs.declared.Component.{Component}
use Rattle.layout.specs.declared.Layout.{Layout}
use Rattle.layout.specs.Records.{neighbour_of, neighbours_of, id_of, ids_of, records_of, records_in, view, packed}
use Rattle.layout.specs.RecordLaws.{view_pack}
use Rattle.layout.specs.Fields.{fields_ok, field_tests}
use Rattle.layout.specs.Distinct.{distinct_hold}
use Rattle.layout.specs.Rules.{rule_broken, valid}
use Rattle.layout.specs.Facts.{Kind, Fields, Keeps}
use Rattle.layout.specs.FactLaws.{kind_records, keeps_facts, facts_keep, valid_facts, facts_valid}
use Rattle.page.specs.Same.{trimmed, trimmed_records}
use Rattle.round_trip.specs.Pages.{blanked}
use Rattle.round_trip.specs.InMemory.{kind_count}

-- A component that keeps refusal 6's rule has the same object records when the places past them are blanked.
pub records_same : {c : Component} → Kind c → records_of (trimmed c) ≡ records_of c
records_same {c} k = trimmed_records c (kind_records k) (kind_count k)

-- No test of the fields looks at the places past the object records,
fields_same : (c : Component) → records_of (trimmed c) ≡ records_of c → fields_ok (trimmed c) ≡ fields_ok c
unfolding fields_ok
fields_same c e = rw e

field_tests_same : (cs : List Component) → Fields cs → field_tests (map trimmed cs) ≡ field_tests cs
field_tests_same [] f = refl
field_tests_same (c ∷ cs) f = rw (fields_same c (records_same f.1), field_tests_same cs f.2)

-- nor does a test of neighbours,
neighbours_same : (cs : List Component) → neighbours_of (map trimmed cs) ≡ neighbours_of cs
neighbours_same cs = map-map neighbour_of trimmed cs

-- nor one of ids,
ids_same : (cs : List Component) → ids_of (map trimmed cs) ≡ ids_of cs
ids_same cs = map-map id_of trimmed cs

-- nor one of object records.
records_in_same : (cs : List Component) → Fields cs → records_in (map trimmed cs) ≡ records_in cs
records_in_same [] f = refl
records_in_same (c ∷ cs) f = rw (records_same f.1, records_in_same cs f.2)

-- Components that keep refusal 6's rule break the same rule, or none, when the places past their object records are
-- blanked.
pub rules_same : (more : Bool) (cs : List Component) → Fields cs → rule_broken more (map trimmed cs) ≡ rule_broken more cs
unfolding rule_broken distinct_hold
rules_same more cs f = rw (field_tests_same cs f, neighbours_same cs, ids_same cs, records_in_same cs f)

-- What a list keeps, it keeps when the places past its object records are blanked.
pub keeps_same : (more : Bool) (cs : List Component) → Keeps more cs → Keeps more (map trimmed cs)
keeps_same more cs k =
    keeps_facts more (map trimmed cs) (rules_same more cs k.fields ∙ facts_keep more cs k)

-- The components of a blanked layout are those of the layout, the places past their object records blanked.
pub view_blanked : (l : Layout) → valid l ≡ true → view (blanked l) ≡ map trimmed (view l)
view_blanked l e =
    let v = valid_facts l e in
    let n : length (map trimmed (view l)) ≡ l.count = length-map (view l) trimmed ∙ v.whole in
    view_pack l.generation (map trimmed (view l)) (omega (arith, v.few))

-- A valid layout is valid when the unused places of its arrays are blanked.
pub blanked_valid : (l : Layout) → valid l ≡ true → valid (blanked l) ≡ true
blanked_valid l e =
    let v = valid_facts l e in
    let n : length (map trimmed (view l)) ≡ l.count = length-map (view l) trimmed ∙ v.whole in
    facts_valid (blanked l)
    record {
      complete = refl;
      some = omega (arith, v.some);
      few = omega (arith, v.few);
      whole = ap length (view_blanked l e);
      keeps = rw (view_blanked l e) (keeps_same false (view l) v.keeps);
    }

-- Blanking the places past the object records a second time changes nothing.
trimmed_again : (cs : List Component) → Fields cs → map trimmed (map trimmed cs) ≡ map trimmed cs
trimmed_again [] f = refl
trimmed_again (c ∷ cs) f = rw (records_same f.1, trimmed_again cs f.2)

-- Blanking a layout a second time changes nothing.
pub blanked_again : (l : Layout) → valid l ≡ true → blanked (blanked l) ≡ blanked l
blanked_again l e =
    ap (packed l.generation)
    (ap (map trimmed) (view_blanked l e) ∙ trimmed_again (view l) (valid_facts l e).keeps.fields)
