-- The pieces in one component: they tile the part of the request that lies in it, each of them lies in one unit, and
-- each ends where the component cuts the file or where the request ends.
use Rattle.std.specs.Prelude.{ℕ, zero, suc, ◌+◌, ◌-◌, ◌%◌, ◌≤◌, ◌<◌, min, max, ◌≡◌, refl, List, [], ◌∷◌, true, false}
use Rattle.std.specs.Prelude.{cond, ltb}
use Rattle.std.proofs.Common.{ap, ◌∙◌, arith, mod-lt, ltb-true, ltb-false, lt-ltb, le-leb, eq-eqb}
use Rattle.std.proofs.Math.Bool.{or-true, and-true}
use Rattle.std.proofs.lemmas.Bool.{not-false}
use Rattle.lists.specs.Bools.{bool_cases, cond_elim}
use Rattle.stripe.specs.Stripe.{stripe_of, object_byte}
use Rattle.stripe.proofs.Laws.{unit_next_begin}
use Rattle.layout.specs.declared.Component.{Component}
use Rattle.layout.specs.Facts.{Kind}
use Rattle.layout.specs.FactLaws.{kind_init, kind_ordered}
use Rattle.mapping.specs.declared.Span.{Span}
use Rattle.mapping.specs.declared.Piece.{Piece}
use Rattle.mapping.specs.Cutting.{unit_end, unit_count, piece_from, unit_pieces, part_begin, part_end}
use Rattle.mapping.specs.Spans.{span_of}
use Rattle.mapping.specs.Cutting.{touches, part_count, part_pieces, not_init_asked}
use Rattle.mapping.specs.CutPlaces.{cuts_at}
use Rattle.mapping.specs.CutFacts.{Each, Tiles}
use Rattle.mapping.specs.UnitLaws.{unit_end_lem, unit_count_none}
use Rattle.mapping.specs.UnitLaws.{units_next, units_last}

-- A piece of component c, out of a request that ends at b.
pub record PieceOf (b : ℕ) (c : Component) (p : Piece) : Type 0 where
  -- The component is init. The piece tells its id, and the stripe and the object byte of the piece's first byte.
  pub init : c.init ≡ true
  pub id : p.id ≡ c.id
  pub stripe : p.stripe ≡ stripe_of c.stripe_size c.stripe_count p.offset
  pub byte : p.byte ≡ object_byte c.stripe_size c.stripe_count p.offset
  -- It lies in the component, and in one unit.
  pub from : c.begin ≤ p.offset
  pub to : p.offset + p.length ≤ c.end
  pub unit : p.offset % c.stripe_size + p.length ≤ c.stripe_size
  -- It ends where the request ends or, before that, where the component cuts the file.
  pub asked : p.offset + p.length ≤ b
  pub stops : p.offset + p.length < b → cuts_at (p.offset + p.length) c ≡ true

-- Pieces that tile the bytes from x to y, each of them a piece of component c.
abbrev pub TilesOf : ℕ → Component → ℕ → ℕ → List Piece → Type 0
TilesOf b c x y ps = Tiles x y ps × Each (PieceOf b c) ps

-- A component cuts the file at its end and, inside it, at a multiple of the stripe size.
cuts_end : (c : Component) → cuts_at c.end c ≡ true
cuts_end c = rw (eq-eqb c.end c.end refl, or-true)

cuts_unit : (c : Component) (q : ℕ) → c.begin ≤ q → q < c.end → q % c.stripe_size ≡ 0 → cuts_at q c ≡ true
cuts_unit c q h k e =
    rw (le-leb c.begin q h, lt-ltb q c.end k, eq-eqb (q % c.stripe_size) 0 e, or-true)

-- The first multiple of z above x is above x, and a multiple of z.
unit_end_above : (z x : ℕ) → 0 < z → x < unit_end z x
unit_end_above z x h = omega (arith, unit_end_lem z x h, mod-lt x h)

unit_end_multiple : (z x : ℕ) → 0 < z → unit_end z x % z ≡ 0
unit_end_multiple z x h =
    rw (unit_end_lem z x h) (unit_next_begin z x (z - x % z) h (omega (arith, mod-lt x h)))

module _ (b : ℕ) (c : Component) (init : c.init ≡ true) (sized : 0 < c.stripe_size) where
  abbrev z : ℕ
  z = c.stripe_size

  -- The piece from x to e, where e is not past the end of x's unit, before the pieces from e to y.
  piece_before : (x e y : ℕ) (ps : List Piece) → c.begin ≤ x → x < e → e ≤ unit_end z x → e ≤ c.end → e ≤ b
      → (e < b → cuts_at e c ≡ true) → TilesOf b c e y ps
      → TilesOf b c x y (piece_from c.id z c.stripe_count x e ∷ ps)
  piece_before x e y ps from h unit to asked stops r =
      let w : x + (e - x) ≡ e = omega arith in (
        (refl, omega arith, rw w r.0),
        (
          record {
            init = init;
            id = refl;
            stripe = refl;
            byte = refl;
            from = from;
            to = omega arith;
            unit = omega (arith, unit_end_lem z x sized, mod-lt x sized);
            asked = omega arith;
            stops = rw w stops;
          },
          r.1,
        ),
      )

  -- The pieces from x to y; n bounds how far y is.
  units_cut : (y : ℕ) → y ≤ c.end → y ≤ b → (y < b → cuts_at y c ≡ true)
      → (n x : ℕ) → y ≤ x + n → c.begin ≤ x → x < y
      → TilesOf b c x y (unit_pieces (unit_count z x y) c.id z c.stripe_count x y)
  units_cut y to asked stops zero x k from h = absurd (omega arith)
  units_cut y to asked stops (suc n) x k from h =
      let s = c.stripe_count in
      let e = unit_end z x in
      let above = unit_end_above z x sized in
      bool_cases (ltb e y)
      (λ t. let l = ltb-true e y t in
      let ps = unit_pieces (unit_count z e y) c.id z s e y in
      rw (units_next c.id z s x y sized l)
      (piece_before x e y ps from above (omega arith) (omega arith) (omega arith)
      (λ m. cuts_unit c e (omega arith) (omega arith) (unit_end_multiple z x sized))
      (units_cut y to asked stops n e (omega arith) (omega arith) l)))
      (λ t. let l = ltb-false e y t in
      rw (units_last c.id z s x y sized h l) (piece_before x y y [] from h l to asked stops (refl, tt)))

-- A component that has no byte of the request has no pieces.
pub untouched_none : (a b : ℕ) (c : Span) → touches a b c ≡ false → part_count a b c ≡ 0
untouched_none a b c t =
    let x = part_begin a c in
    let y = part_end b c in
    cond_elim (λ n. n ≡ 0) c.init (λ i. unit_count_none c.stripe_size x y (ltb-false x y t)) (λ i. refl)

-- How far the request from a to b is cut by the components that end at or before `at`.
abbrev pub cut_to : ℕ → ℕ → ℕ → ℕ
cut_to a b at = min b (max a at)

module _ (a b : ℕ) where
  -- At the file's start nothing is cut.
  pub cut_to_start : a ≤ b → cut_to a b 0 ≡ a
  cut_to_start h = omega arith

  -- At the request's end all of it is.
  pub cut_to_end : (at : ℕ) → a ≤ b → (a < b → b ≤ at) → cut_to a b at ≡ b
  cut_to_end at h k =
      bool_cases (ltb a b) (λ t. omega (arith, k (ltb-true a b t))) (λ t. omega (arith, ltb-false a b t))

  -- From x to y, where no byte of the request lies, nothing is cut.
  cut_to_stays : (x y : ℕ) → x ≤ y → min b y ≤ max a x → cut_to a b x ≡ cut_to a b y
  cut_to_stays x y h k = omega arith

  module _ (c : Component) where
    -- The part of the request that lies in the component ends where the request ends or at the component's end.
    stops_part : part_end b (span_of c) < b → cuts_at (part_end b (span_of c)) c ≡ true
    stops_part h =
        let e : part_end b (span_of c) ≡ c.end = omega arith in
        ap (λ q. cuts_at q c) e ∙ cuts_end c

    -- The pieces in a component that has bytes of the request.
    touched_cut : Kind c → touches a b (span_of c) ≡ true → c.init ≡ true
        → TilesOf b c (part_begin a (span_of c)) (part_end b (span_of c)) (part_pieces a b (span_of c))
    touched_cut k t i =
        let x = part_begin a (span_of c) in
        let y = part_end b (span_of c) in
        let n : part_count a b (span_of c) ≡ unit_count c.stripe_size x y
        = ap (λ u. cond u (unit_count c.stripe_size x y) 0) i in
        rw n
        (units_cut b c i (kind_init k i).striped.size.nonzero y (omega arith) (omega arith) stops_part
        y x (omega arith) (omega arith) (ltb-true x y t))

    -- The pieces in a component tile what the component adds to the part of the request that is cut.
    pub part_cut : Kind c → not_init_asked a b (span_of c) ≡ false
        → TilesOf b c (cut_to a b c.begin) (cut_to a b c.end) (part_pieces a b (span_of c))
    part_cut k u =
        let x = part_begin a (span_of c) in
        let y = part_end b (span_of c) in
        bool_cases (touches a b (span_of c))
        (λ t. let l = ltb-true x y t in
        let v : cut_to a b c.begin ≡ x = omega arith in
        let w : cut_to a b c.end ≡ y = omega arith in
        rw (v, w) (touched_cut k t (not-false c.init (rw (t, and-true) at u))))
        (λ t. let stays = cut_to_stays c.begin c.end (kind_ordered k) (ltb-false x y t) in
        rw (stays, untouched_none a b (span_of c) t) (refl, tt))
