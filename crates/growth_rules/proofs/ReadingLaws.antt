-- The piece of a byte that lies in an init component is the one piece of the request of that byte alone.
use Rattle.std.specs.Prelude.{ℕ, ◌+◌, ◌<◌, ◌≡◌, refl, List, [], ◌∷◌, ◌++◌, Bool, true, false, not, cond, ltb, leb}
use Rattle.std.proofs.Common.{ap, ap₂, ◌∙◌, arith, mod-lt, ltb-true, le-ltb, lt-ltb, leb-true, le-leb}
use Rattle.std.proofs.Math.Option.{some, none-ne-some, some-injective}
use Rattle.lists.specs.Bools.{bool_cases, both_true, true_both, clash}
use Rattle.layout.specs.declared.Component.{Component}
use Rattle.layout.specs.Holder.{holds}
use Rattle.layout.specs.Facts.{Kind, Fields, Linked, Keeps}
use Rattle.layout.specs.FactLaws.{kind_ordered, kind_init}
use Rattle.mapping.specs.Homes.{init_at, reading_of}
use Rattle.mapping.specs.declared.Piece.{Piece}
use Rattle.mapping.specs.Spans.{span_of, spans_of}
use Rattle.mapping.specs.Cutting.{unit_count, unit_pieces, part_begin, part_end, touches, part_count, part_pieces}
use Rattle.mapping.specs.Cutting.{pieces_of, cut_pieces}
use Rattle.mapping.specs.UnitLaws.{unit_end_lem, units_last}
use Rattle.mapping.proofs.UnitCutLaws.{untouched_none}
use Rattle.growth_rules.specs.Readings.{byte_piece}

module _ (b : ℕ) where
  module _ (c : Component) where
    -- An init component that holds the byte has one piece of the request of that byte.
    one_here : Kind c → init_at b c ≡ true → part_pieces b (b + 1) (span_of c) ≡ byte_piece c b ∷ []
    one_here k e =
        let t = both_true c.init (holds c b) e in
        let u = both_true (leb c.begin b) (ltb b c.end) t.1 in
        let x = leb-true c.begin b u.0 in
        let y = ltb-true b c.end u.1 in
        let z = c.stripe_size in
        let sized : 0 < z = (kind_init k t.0).striped.size.nonzero in
        let from : part_begin b (span_of c) ≡ b = omega arith in
        let to : part_end (b + 1) (span_of c) ≡ b + 1 = omega arith in
        let pieces : Bool → ℕ → ℕ → List Piece
        = λ i x y. unit_pieces (cond i (unit_count z x y) 0) c.id z c.stripe_count x y in
        ap (λ (i : Bool). pieces i (part_begin b (span_of c)) (part_end (b + 1) (span_of c))) t.0
        ∙ ap₂ (pieces true) from to
        ∙ units_last c.id z c.stripe_count b (b + 1) sized (omega arith)
        (omega (arith, unit_end_lem z b sized, mod-lt b sized))

    -- Any other component has none.
    none_here : init_at b c ≡ false → part_count b (b + 1) (span_of c) ≡ 0
    none_here q =
        let x = part_begin b (span_of c) in
        let y = part_end (b + 1) (span_of c) in
        bool_cases (touches b (b + 1) (span_of c))
        (λ t. let l = ltb-true x y t in
        let held : holds c b ≡ true = true_both (le-leb c.begin b (omega arith)) (lt-ltb b c.end (omega arith)) in
        bool_cases c.init
        (λ i. clash (true_both i held) q)
        (λ i. ap (λ (j : Bool). cond j (unit_count c.stripe_size x y) 0) i))
        (λ t. untouched_none b (b + 1) (span_of c) t)

  -- Components that are end to end from above the byte on have none.
  none_above : (more : Bool) (at : ℕ) (may : Bool) (cs : List Component) → Linked more at may cs → Fields cs → b < at
      → pieces_of b (b + 1) (spans_of cs) ≡ []
  none_above more at may [] k f h = refl
  none_above more at may (c ∷ cs) k f h =
      let apart : touches b (b + 1) (span_of c) ≡ false
      = le-ltb (part_begin b (span_of c)) (part_end (b + 1) (span_of c)) (omega (arith, k.0)) in
      rw (untouched_none b (b + 1) (span_of c) apart)
      (none_above more c.end (not c.extension) cs k.3 f.2 (omega (arith, k.0, kind_ordered f.1)))

  -- Components that are end to end have the one piece of the component that is read.
  one_from : (more : Bool) (at : ℕ) (may : Bool) (cs : List Component) → Linked more at may cs → Fields cs → (p : Piece)
      → reading_of byte_piece b cs ≡ some p → pieces_of b (b + 1) (spans_of cs) ≡ p ∷ []
  one_from more at may [] k f p e = absurd (none-ne-some p e)
  one_from more at may (c ∷ cs) k f p e =
      bool_cases (init_at b c)
      (λ q. let held = both_true (leb c.begin b) (ltb b c.end) (both_true c.init (holds c b) q).1 in
      let rest = none_above more c.end (not c.extension) cs k.3 f.2 (ltb-true b c.end held.1) in
      ap₂ (λ (xs ys : List Piece). xs ++ ys) (one_here c f.1 q) rest
      ∙ ap (λ (x : Piece). x ∷ []) (some-injective (byte_piece c b) p (rw q at e)))
      (λ q. rw (none_here c q) (one_from more c.end (not c.extension) cs k.3 f.2 p (rw q at e)))

-- Of components that keep the rules: if the byte lies in an init component, the request of that byte alone has one
-- piece, the byte's piece by that component.
pub byte_pieces : {more : Bool} {cs : List Component} → Keeps more cs → (b : ℕ) (p : Piece)
    → reading_of byte_piece b cs ≡ some p → cut_pieces b 1 cs ≡ p ∷ []
byte_pieces {more} {cs} k b p e = one_from b more 0 false cs k.linked k.fields p e
