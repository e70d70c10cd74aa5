-- The two loops over components that cutting makes, over plain numbers: what is known when a loop has come to component
-- i, and how it goes on.
use Rattle.std.specs.Prelude.{ℕ, ◌+◌, ◌*◌, ◌^◌, ◌<◌, ◌≤◌, ◌≡◌, refl, List, ◌∷◌, true, false, length, get_or, drop}
use Rattle.std.proofs.Common.{◌∙◌, sym, arith, add-one, drop-cons, zero-add, drop_of_length-le}
use Rattle.std.proofs.lemmas.List.Edits.{sets}
use Rattle.lists.specs.Tests.{any_of}
use Rattle.mapping.specs.declared.Span.{Span}
use Rattle.mapping.specs.Cutting.{part_count, part_pieces, pieces_of, piece_count, all_numbers, not_init_asked}
use Rattle.mapping.specs.Spans.{no_span, Cuttable, AllCuttable}
use Rattle.mapping.specs.CuttingLaws.{pieces_next}

-- Component i of a list, and those after it.
next : (xs : List Span) (i : ℕ) (x : Span) → i < length xs → x ≡ get_or xs i no_span
    → drop i xs ≡ x ∷ drop (i + 1) xs
next xs i x h e = rw (e, add-one) (drop-cons xs i no_span h)

-- Of the request from a to b: all pieces are those counted so far and those of the components from i on, and no
-- component before is asked for that is not init.
pub record Counted (a b : ℕ) (xs : List Span) (i pieces : ℕ) : Type 0 where
  pub few : pieces ≤ i * 2 ^ 48
  pub each : AllCuttable (drop i xs)
  pub counted : pieces + piece_count a b (drop i xs) ≡ piece_count a b xs
  pub init : any_of (not_init_asked a b) xs ≡ any_of (not_init_asked a b) (drop i xs)

module _ (xs : List Span) {a b : ℕ} where
  -- Before the first component.
  pub counted_none : AllCuttable xs → Counted a b xs 0 0
  counted_none e = record { few = omega arith; each = e; counted = zero-add _; init = refl }

  module _ {i pieces : ℕ} (k : Counted a b xs i pieces) where
    module _ {x : Span} (h : i < length xs) (at : x ≡ get_or xs i no_span) where
      -- Component i is asked for and is not init.
      pub not_init_found : not_init_asked a b x ≡ true → any_of (not_init_asked a b) xs ≡ true
      not_init_found e = k.init ∙ rw (next xs i x h at, e)

      -- Else it can be cut,
      pub count_cuttable : Cuttable x
      count_cuttable = (rw (next xs i x h at) at k.each).0

      -- and its pieces are counted.
      pub counted_next : {part : ℕ} → not_init_asked a b x ≡ false
          → part ≡ part_count a b x → part ≤ 2 ^ 48 → Counted a b xs (i + 1) (pieces + part)
      counted_next e p f = record {
        few = omega (arith, k.few);
        each = (rw (next xs i x h at) at k.each).1;
        counted = omega (arith, p, rw (next xs i x h at) at k.counted);
        init = k.init ∙ rw (next xs i x h at, e);
      }

    -- After the last component.
    pub counted_all : length xs ≤ i
        → (any_of (not_init_asked a b) xs ≡ false) × (pieces ≡ piece_count a b xs)
    counted_all h =
        (k.init ∙ rw (drop_of_length-le xs h), omega (arith, rw (drop_of_length-le xs h) at k.counted))

-- Of the request from a to b: the pieces of the components from i on, stored from place w of the room on, give what
-- all pieces give, stored in the first of the lent numbers.
pub record Put (a b : ℕ) (xs : List Span) (lent : List ℕ) (i w : ℕ) (room : List ℕ) : Type 0 where
  pub each : AllCuttable (drop i xs)
  pub kept : length room ≡ length lent
  pub ends : w + 5 * piece_count a b (drop i xs) ≡ 5 * piece_count a b xs
  pub stored : sets lent 0 (all_numbers (pieces_of a b xs)) ≡ sets room w (all_numbers (pieces_of a b (drop i xs)))

module _ (xs : List Span) {a b : ℕ} {lent : List ℕ} where
  -- Before the first component.
  pub put_none : AllCuttable xs → Put a b xs lent 0 0 lent
  put_none e = record { each = e; kept = refl; ends = zero-add _; stored = refl }

  module _ {i w : ℕ} {room : List ℕ} (p : Put a b xs lent i w room)
      {x : Span} (h : i < length xs) (at : x ≡ get_or xs i no_span) where
    -- Component i can be cut, and there is room for its pieces.
    pub put_cuttable : Cuttable x
    put_cuttable = (rw (next xs i x h at) at p.each).0

    pub room_left : 5 * piece_count a b xs ≤ length lent → w + 5 * part_count a b x ≤ length room
    room_left k = omega (arith, k, p.kept, rw (next xs i x h at) at p.ends)

    -- After it.
    pub put_next : {w' : ℕ} {room' : List ℕ} → w' ≡ w + 5 * part_count a b x
        → length room' ≡ length room → room' ≡ sets room w (all_numbers (part_pieces a b x))
        → Put a b xs lent (i + 1) w' room'
    put_next e l r = rw e record {
      each = (rw (next xs i x h at) at p.each).1;
      kept = l ∙ p.kept;
      ends = omega (arith, rw (next xs i x h at) at p.ends);
      stored = p.stored ∙ rw (next xs i x h at, r) (pieces_next a b x room w (drop (i + 1) xs));
    }

-- After the last component.
pub put_all : (xs : List Span) {a b : ℕ} {lent : List ℕ} {i w : ℕ} {room : List ℕ}
    → Put a b xs lent i w room → length xs ≤ i
    → room ≡ sets lent 0 (all_numbers (pieces_of a b xs))
put_all xs {a} {b} {lent} {i} {w} {room} p h =
    sym (p.stored ∙ rw (drop_of_length-le xs h))
