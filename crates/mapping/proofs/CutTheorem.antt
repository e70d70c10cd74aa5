-- The theorem of cutting: the pieces of a request that is accepted are the request, cut at exactly the cut places, and
-- tell the homes of its bytes. What is in quotes is document 01's.
use Rattle.std.specs.Prelude.{ℕ, zero, suc, ◌+◌, ◌-◌, ◌/◌, ◌^◌, ◌<◌, ◌≡◌, refl, List, [], ◌∷◌, Bool, true, false, ◌||◌}
use Rattle.std.specs.Prelude.{eqb, length}
use Rattle.std.proofs.Common.{sym, ap, ◌∙◌, add-zero, arith, length-append, le-ltb, eq-eqb, ne_eqb}
use Rattle.std.proofs.Math.Bool.{and-false}
use Rattle.std.proofs.lemmas.Bool.{eqb-false}
use Rattle.lists.specs.Bools.{bool_cases}
use Rattle.lists.specs.Tests.{any_of}
use Rattle.layout.specs.declared.Component.{Component}
use Rattle.layout.specs.declared.Layout.{Layout}
use Rattle.layout.specs.Records.{view}
use Rattle.layout.specs.Rules.{valid}
use Rattle.layout.specs.Holder.{last_end}
use Rattle.layout.specs.Facts.{Keeps}
use Rattle.layout.specs.FactLaws.{valid_facts}
use Rattle.mapping.specs.declared.Piece.{Piece}
use Rattle.mapping.specs.Answers.{gives}
use Rattle.mapping.specs.AnswerLaws.{answer_gives, checked_gives}
use Rattle.mapping.specs.declared.Span.{Span}
use Rattle.mapping.specs.Spans.{spans_of}
use Rattle.mapping.specs.Cutting.{part_begin, part_end, touches, pieces_of, piece_count, not_init_asked, too_many}
use Rattle.mapping.specs.Cutting.{refusal_by, cut_refusal, cut_pieces, cut_count, cut_of}
use Rattle.mapping.specs.CutPlaces.{cut_place, count_after, count_by_places}
use Rattle.mapping.specs.CutFacts.{Uncut, AtHome, Cut}
use Rattle.mapping.specs.UnitLaws.{length_units}
use Rattle.mapping.specs.Acceptance.{accepted_facts}
use Rattle.mapping.specs.TileLaws.{EndsAt, each_map, count_same, count_pieces}
use Rattle.mapping.proofs.UnitCutLaws.{untouched_none}
use Rattle.mapping.proofs.CutLaws.{PieceIn, ends_asked, ends_cut, pieces_in, uncut_in, home_in_lem}

-- The pieces are as many as they are counted.
length_pieces : (a b : ℕ) (xs : List Span) → length (pieces_of a b xs) ≡ piece_count a b xs
length_pieces a b [] = refl
length_pieces a b (c ∷ xs) = rw (length-append, length_units, length_pieces a b xs)

module _ (cs : List Component) (k : Keeps false cs) where
  -- A cut place, or b, where the request ends.
  abbrev stop : ℕ → ℕ → Bool
  stop b q = eqb q b || cut_place cs q

  -- A piece ends at such a place, and none lies strictly inside it.
  ends_at : (b : ℕ) (p : Piece) → PieceIn b cs p → EndsAt (stop b) p
  ends_at b p h =
      let o = ends_asked b p cs h in
      let e = p.offset + p.length in
      record {
        inside = λ q l r. rw (ne_eqb q b (λ i. omega arith)) (uncut_in cs k b p h q l r);
        stops =
            bool_cases (eqb e b) (λ t. rw t)
            (λ t. let n = eqb-false e b t in rw t (ends_cut b p cs h (omega arith)));
      }

  -- Past the request's begin, and up to its end, there are one more of them than cut places strictly inside it.
  stop_count : (a m : ℕ) → count_after (stop (a + m)) a m ≡ count_by_places a m cs
  stop_count a zero = refl
  stop_count a (suc m) =
      rw (
        eq-eqb (a + suc m) (a + suc m) refl,
        count_same (stop (a + suc m)) (cut_place cs) a m (λ q l r. rw (ne_eqb q (a + suc m) (λ i. omega arith))),
      ) refl

  -- The theorem over components that keep the rules.
  pub cut_in_lem : (a m n : ℕ) → cut_refusal a m n cs ≡ 0 → Cut a m (cut_count a m cs) cs (cut_pieces a m cs)
  cut_in_lem a m n e =
      let b = a + m in
      let ps = cut_pieces a m cs in
      let r = pieces_in cs k a m n (accepted_facts (last_end cs) a m n (spans_of cs) e) in
      let l = sym (length_pieces a b (spans_of cs)) in
      let s = each_map (PieceIn b cs) (EndsAt (stop b)) (ends_at b) ps r.1 in
      record {
        counted = l;
        by_places = l ∙ sym (count_pieces (stop b) a m ps r.0 s) ∙ stop_count a m;
        tiles = r.0;
        uncut = each_map (PieceIn b cs) (Uncut cs) (uncut_in cs k b) ps r.1;
        at_home = each_map (PieceIn b cs) (AtHome cs) (home_in_lem cs k b) ps r.1;
      }

-- The theorem: if a request is accepted with the answer k, there are k pieces, "the number of different cut places
-- strictly inside the request plus one, or 0 for length 0"; they "stand in file order and together are the request"; no
-- component border and no multiple of the component's stripe size lies strictly inside one; and each tells the homes of
-- its bytes.
pub cut_right : (l : Layout) (a m n k : ℕ) → cut_of a m n l ≡ gives k
    → Cut a m k (view l) (cut_pieces a m (view l))
unfolding cut_of
cut_right l a m n k e =
    let cs = view l in
    let p = checked_gives l (cut_refusal a m n cs) (cut_count a m cs) k e in
    let q = answer_gives (cut_refusal a m n cs) (cut_count a m cs) k p.1 in
    rw q.1 at (cut_in_lem cs (valid_facts l p.0).keeps a m n q.0)

-- A request of no bytes has none in a component,
untouched : (a : ℕ) (c : Span) → touches a a c ≡ false
untouched a c =
    le-ltb (part_begin a c) (part_end a c) (omega arith)

-- so none in a component that is not init,
none_asked : (a : ℕ) (xs : List Span) → any_of (not_init_asked a a) xs ≡ false
none_asked a [] = refl
none_asked a (c ∷ xs) = rw (untouched a c, and-false, none_asked a xs)

-- and no pieces.
pub no_pieces : (a : ℕ) (xs : List Span) → pieces_of a a xs ≡ []
no_pieces a [] = refl
no_pieces a (c ∷ xs) = rw (untouched_none a a c (untouched a c), no_pieces a xs)

-- "Length 0 on a valid layout gives no pieces, wherever it points."
pub cut_empty : (l : Layout) (a n : ℕ) → valid l ≡ true → a < 2 ^ 64 → cut_of a 0 n l ≡ gives 0
unfolding cut_of refusal_by too_many
cut_empty l a n v h =
    let xs = spans_of (view l) in
    let none : piece_count a a xs ≡ 0 = sym (length_pieces a a xs) ∙ ap length (no_pieces a xs) in
    rw (v, add-zero a, le-ltb (2 ^ 64 - 1) a (omega arith), none_asked a xs, none, le-ltb (n / 5) 0 (omega arith))
