-- The pieces of a request in components that are end to end: they tile the request, and each is a piece of one of
-- the components. So no cut place lies strictly inside a piece, a piece ends at a cut place or where the request ends,
-- and its bytes have the homes that it tells.
use Rattle.std.specs.Prelude.{ℕ, zero, suc, ◌+◌, ◌-◌, ◌*◌, ◌/◌, ◌%◌, ◌≤◌, ◌<◌, ◌≡◌, refl, Bool, true, false, not, ◌⊎◌}
use Rattle.std.specs.Prelude.{eqb, length}
use Rattle.std.proofs.Common.{ap, ◌∙◌, inl, inr, arith, div-add-mod', lt-ltb, le-ltb, le-leb, eq-eqb, ne_eqb}
use mathlib.Core.List.{List, [], ◌∷◌}
use Rattle.std.proofs.Math.Bool.{and-false, or-true}
use Rattle.std.proofs.Math.Option.{some}
use Rattle.std.proofs.Math.ListN.{get_or, get_elem?}
use Rattle.std.proofs.lemmas.Bool.{lt-leb}
use Rattle.lists.specs.Bools.{both_false}
use Rattle.lists.specs.Tests.{any_of, after}
use Rattle.lists.specs.Counting.{count}
use Rattle.stripe.specs.Stripe.{unit_of}
use Rattle.stripe.proofs.Laws.{unit_within, stripe_within, object_byte_within}
use Rattle.layout.specs.declared.Object.{Object}
use Rattle.layout.specs.declared.Component.{Component}
use Rattle.layout.specs.Records.{no_object, records_of, ids_of, neighbours_of}
use Rattle.layout.specs.Neighbours.{end_of}
use Rattle.layout.specs.Holder.{last_end}
use Rattle.layout.specs.Facts.{Kind, Fields, Linked, Keeps}
use Rattle.layout.specs.FactLaws.{kind_ordered, kind_init}
use Rattle.mapping.specs.declared.Piece.{Piece}
use Rattle.mapping.specs.Homes.{in_object, home_in, init_at, home_of}
use Rattle.mapping.specs.Spans.{span_of, spans_of}
use Rattle.mapping.specs.Cutting.{part_pieces, pieces_of, not_init_asked, cut_pieces}
use Rattle.mapping.specs.CutPlaces.{cuts_at, cut_place}
use Rattle.mapping.specs.CutFacts.{Each, Tiles, Uncut, AtHome}
use Rattle.mapping.specs.Acceptance.{Accepted}
use Rattle.mapping.proofs.BackLaws.{stripe_stands}
use Rattle.mapping.specs.TileLaws.{each_append, each_map, tiles_append}
use Rattle.mapping.proofs.UnitCutLaws.{PieceOf, cut_to, cut_to_start, cut_to_end, part_cut}

-- A piece of one of the components, out of a request that ends at b.
abbrev pub PieceIn : ℕ → List Component → Piece → Type 0
PieceIn b [] p = ⊥
PieceIn b (c ∷ cs) p = PieceOf b c p ⊎ PieceIn b cs p

-- The pieces in components that are end to end from `at` on, if the request is not refused: they tile what is not
-- yet cut of it there.
pieces_from : (a b at : ℕ) (may : Bool) (cs : List Component) → Linked false at may cs → Fields cs
    → any_of (not_init_asked a b) (spans_of cs) ≡ false → cut_to a b (after end_of at (neighbours_of cs)) ≡ b
    → Tiles (cut_to a b at) b (pieces_of a b (spans_of cs)) × Each (PieceIn b cs) (pieces_of a b (spans_of cs))
pieces_from a b at may [] k f u e = (e, tt)
pieces_from a b at may (c ∷ cs) k f u e =
    let v = both_false (not_init_asked a b (span_of c)) (any_of (not_init_asked a b) (spans_of cs)) u in
    let ps = part_pieces a b (span_of c) in
    let qs = pieces_of a b (spans_of cs) in
    let x = part_cut a b c f.1 v.0 in
    let y = pieces_from a b c.end (not c.extension) cs k.3 f.2 v.1 e in (
      rw (← k.0) (tiles_append (cut_to a b c.begin) (cut_to a b c.end) b ps qs x.0 y.0),
      each_append (PieceIn b (c ∷ cs)) ps qs
          (each_map (PieceOf b c) (PieceIn b (c ∷ cs)) (λ p h. inl h) ps x.1)
          (each_map (PieceIn b cs) (PieceIn b (c ∷ cs)) (λ p h. inr h) qs y.1),
    )

-- A component does not cut the file before its begin, after its end, or inside it where there is no multiple of its
-- stripe size.
module _ (q : ℕ) (c : Component) where
  no_cut_before : Kind c → q < c.begin → cuts_at q c ≡ false
  no_cut_before k h =
      let o = kind_ordered k in
      rw (ne_eqb q c.begin (λ e. omega arith), ne_eqb q c.end (λ e. omega arith), lt-leb c.begin q h)

  no_cut_after : Kind c → c.end < q → cuts_at q c ≡ false
  no_cut_after k h =
      let o = kind_ordered k in
      rw (
        ne_eqb q c.begin (λ e. omega arith),
        ne_eqb q c.end (λ e. omega arith),
        le-ltb q c.end (omega arith),
        and-false,
      )

  no_cut_inside : c.begin < q → q < c.end → (q % c.stripe_size ≡ 0 → ⊥) → cuts_at q c ≡ false
  no_cut_inside h k m =
      rw (
        ne_eqb q c.begin (λ e. omega arith),
        ne_eqb q c.end (λ e. omega arith),
        ne_eqb (q % c.stripe_size) 0 m,
        and-false,
      )

-- Strictly inside a unit there is no multiple of the stripe size.
inside_unit : (z o d : ℕ) → 0 < d → o % z + d < z → (o + d) % z ≡ 0 → ⊥
unfolding unit_of
inside_unit z o d h k e =
    let u : (o + d) / z * z ≡ o / z * z = ap (λ n. n * z) (unit_within z o d k) in
    omega (arith, div-add-mod' (o + d) z, div-add-mod' o z)

-- A piece and its component.
module _ (b : ℕ) (c : Component) (p : Piece) (k : PieceOf b c p) where
  -- The component does not cut the file strictly inside the piece.
  piece_uncut : (q : ℕ) → p.offset < q → q < p.offset + p.length → cuts_at q c ≡ false
  piece_uncut q h l =
      let z = c.stripe_size in
      let d = q - p.offset in
      let e : p.offset + d ≡ q = omega arith in
      no_cut_inside q c (omega (arith, k.from)) (omega (arith, k.to))
      (λ m. inside_unit z p.offset d (omega arith) (omega (arith, k.unit)) (ap (λ n. n % z) e ∙ m))

  module _ (d : ℕ) (h : d < p.length) where
    -- The component is init and holds each byte of the piece,
    piece_held : init_at (p.offset + d) c ≡ true
    piece_held =
        let at = p.offset + d in
        rw (k.init, le-leb c.begin at (omega (arith, k.from)), lt-ltb at c.end (omega (arith, k.to)))

    -- and the byte's home by the component is the one that the piece tells.
    piece_home : home_in c (p.offset + d) ≡ in_object (get_or (records_of c) p.stripe no_object) (p.byte + d)
    unfolding home_in
    piece_home =
        let z = c.stripe_size in
        let u : p.offset % z + d < z = omega (arith, k.unit) in
        rw (
          stripe_within z c.stripe_count p.offset d u,
          object_byte_within z c.stripe_count p.offset d u,
          k.stripe,
          k.byte,
        )

-- The object record at a place below the end.
record_at_lem : (os : List Object) (i : ℕ) → i < length os → get_elem? os i ≡ some (get_or os i no_object)
record_at_lem [] i h = absurd (omega arith)
record_at_lem (o ∷ os) zero h = refl
record_at_lem (o ∷ os) (suc i) h = record_at_lem os i (omega arith)

-- Components that are end to end from `at` on do not cut the file before `at`.
none_before_lem : (at : ℕ) (may : Bool) (cs : List Component) → Linked false at may cs → Fields cs
    → (q : ℕ) → q < at → cut_place cs q ≡ false
unfolding cut_place
none_before_lem at may [] k f q h = refl
none_before_lem at may (c ∷ cs) k f q h =
    let o = kind_ordered f.1 in
    rw (no_cut_before q c f.1 (omega arith))
    (none_before_lem c.end (not c.extension) cs k.3 f.2 q (omega arith))

-- A piece of one of the components.
module _ (b : ℕ) (p : Piece) where
  -- It begins at or after `at`, if the components are end to end from there on.
  begins_after : (at : ℕ) (may : Bool) (cs : List Component) → Linked false at may cs → Fields cs
      → PieceIn b cs p → at ≤ p.offset
  begins_after at may [] k f h = absurd h
  begins_after at may (c ∷ cs) k f (inl h) = omega (arith, h.from)
  begins_after at may (c ∷ cs) k f (inr h) =
      omega (arith, kind_ordered f.1, begins_after c.end (not c.extension) cs k.3 f.2 h)

  -- It tells an id that one of them has.
  id_stands : (cs : List Component) → PieceIn b cs p → 1 ≤ count eqb p.id (ids_of cs)
  id_stands [] h = absurd h
  id_stands (c ∷ cs) (inl h) = rw (eq-eqb p.id c.id h.id) (omega arith)
  id_stands (c ∷ cs) (inr h) = omega (arith, id_stands cs h)

  -- It ends where the request ends or, before that, at a cut place.
  pub ends_asked : (cs : List Component) → PieceIn b cs p → p.offset + p.length ≤ b
  ends_asked [] h = absurd h
  ends_asked (c ∷ cs) (inl h) = h.asked
  ends_asked (c ∷ cs) (inr h) = ends_asked cs h

  pub ends_cut : (cs : List Component) → PieceIn b cs p → p.offset + p.length < b
      → cut_place cs (p.offset + p.length) ≡ true
  unfolding cut_place
  ends_cut [] h l = absurd h
  ends_cut (c ∷ cs) (inl h) l = rw (h.stops l)
  ends_cut (c ∷ cs) (inr h) l = rw (ends_cut cs h l, or-true)

  -- No cut place lies strictly inside it.
  uncut_from : (at : ℕ) (may : Bool) (cs : List Component) → Linked false at may cs → Fields cs
      → PieceIn b cs p → Uncut cs p
  unfolding cut_place
  uncut_from at may [] k f h = absurd h
  uncut_from at may (c ∷ cs) k f (inl h) = λ q l r.
      rw (piece_uncut b c p h q l r)
      (none_before_lem c.end (not c.extension) cs k.3 f.2 q (omega (arith, h.to)))
  uncut_from at may (c ∷ cs) k f (inr h) = λ q l r.
      let o = begins_after c.end (not c.extension) cs k.3 f.2 h in
      rw (no_cut_after q c f.1 (omega arith)) (uncut_from c.end (not c.extension) cs k.3 f.2 h q l r)

  -- Its bytes have the homes that it tells, if no id is there twice.
  home_from : (at : ℕ) (may : Bool) (cs : List Component) → Linked false at may cs → Fields cs
      → ((i : ℕ) → count eqb i (ids_of cs) ≤ 1) → PieceIn b cs p → AtHome cs p
  unfolding home_of
  home_from at may [] k f i h = absurd h
  home_from at may (c ∷ cs) k f i (inl h) =
      let t = stripe_stands c (kind_init f.1 h.init) p.offset in
      record {
        object = get_or (records_of c) p.stripe no_object;
        named = rw (eq-eqb p.id c.id h.id) (record_at_lem (records_of c) p.stripe (omega (arith, h.stripe)));
        home = λ d l. rw (piece_held b c p h d l) (ap some (piece_home b c p h d l));
      }
  home_from at may (c ∷ cs) k f i (inr h) =
      let o = begins_after c.end (not c.extension) cs k.3 f.2 h in
      let n = id_stands cs h in
      let other : (p.id ≡ c.id → ⊥) = λ e. omega (arith, rw (eq-eqb p.id c.id e) at (i p.id)) in
      let r = home_from c.end (not c.extension) cs k.3 f.2 (λ j. omega (arith, i j)) h in
      record {
        object = r.object;
        named = rw (ne_eqb p.id c.id other) r.named;
        home = λ d l. rw (le-ltb (p.offset + d) c.end (omega arith), and-false, and-false) (r.home d l);
      }

-- The same of components that keep the rules.
module _ (cs : List Component) (k : Keeps false cs) where
  -- The pieces of a request that is accepted tile it, and each is a piece of one of the components.
  pub pieces_in : (a m n : ℕ) → Accepted (last_end cs) a m n (spans_of cs)
      → Tiles a (a + m) (cut_pieces a m cs) × Each (PieceIn (a + m) cs) (cut_pieces a m cs)
  pieces_in a m n h =
      rw (cut_to_start a (a + m) (omega arith)) at
      (pieces_from a (a + m) 0 false cs k.linked k.fields h.all_init
      (cut_to_end a (a + m) (last_end cs) (omega arith) (λ l. h.covered (omega arith))))

  module _ (b : ℕ) (p : Piece) (h : PieceIn b cs p) where
    pub uncut_in : Uncut cs p
    uncut_in = uncut_from b p 0 false cs k.linked k.fields h

    pub home_in_lem : AtHome cs p
    home_in_lem = home_from b p 0 false cs k.linked k.fields k.ids h
