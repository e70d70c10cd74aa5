-- The loop of `put_units` over plain numbers: what is known of the byte that it has come to, what is written by then,
-- and how both go on to the next unit.
use Prim.Native.Nat.{ℕ, suc, ◌+◌, ◌-◌, ◌*◌, ◌/◌, ◌%◌, ◌≤◌, ◌<◌}
use mathlib.Core.Path.{◌≡◌, refl, sym, ◌∙◌}
use mathlib.Core.List.{List, ◌∷◌}
use native.Mathlib.Nat.{add-mul, mod-lt}
use native.Mathlib.Omega.{arith}
use lib.ListN.{length}
use lib.Seq.{sets}
use Rattle.lists.specs.Slices.{sets_append}
use Rattle.stripe.specs.Stripe.{unit_of, stripe_of, object_byte}
use Rattle.stripe.proofs.Laws.{stripe_below, object_byte_le, unit_next_begin, next_on_next_stripe, next_on_first_stripe}
use Rattle.mapping.specs.Cutting.{unit_end, unit_count, piece_from, unit_pieces, piece_numbers, all_numbers}
use Rattle.mapping.specs.UnitLaws.{unit_end_lem, unit_count_within, unit_count_next, unit_count_last}
use Rattle.mapping.specs.UnitLaws.{units_next, units_last}

-- What is known of byte a: how many bytes its unit still has, its stripe, the object byte at which its unit begins, and
-- its object byte.
pub record Known (z s a left stripe row byte : ℕ) : Type 0 where
  pub left_is : left ≡ z - a % z
  pub stripe_is : stripe ≡ stripe_of z s a
  pub row_is : row ≡ unit_of z a / s * z
  pub byte_is : byte ≡ object_byte z s a

-- Known by what the definitions compute.
pub known_by : {z s a left stripe row byte : ℕ} → left ≡ z - a % z → stripe ≡ a / z % s → row ≡ a / z / s * z
    → byte ≡ row + a % z → Known z s a left stripe row byte
unfolding unit_of stripe_of object_byte
known_by l t r b = record { left_is = l; stripe_is = t; row_is = r; byte_is = omega (arith, r, b) }

-- Of the first byte of a unit: the unit still has all its bytes, and begins in the object where that byte is.
known_first : {z s a stripe row : ℕ} → a % z ≡ 0 → stripe ≡ stripe_of z s a → row ≡ object_byte z s a
    → Known z s a z stripe row row
unfolding object_byte
known_first h t r = record { left_is = omega arith; stripe_is = t; row_is = omega (arith, r); byte_is = r }

-- The loop has come to byte a and to place w of the room: the pieces from a to `to`, stored there, give what all pieces
-- from `from` to `to` give, stored from place `at` of the lent numbers on.
pub record Written (id z s from to at : ℕ) (lent : List ℕ) (a w : ℕ) (room : List ℕ) : Type 0 where
  pub within : a < to
  pub kept : length room ≡ length lent
  pub place : w + 5 * unit_count z a to ≡ at + 5 * unit_count z from to
  pub stored : sets lent at (all_numbers (unit_pieces (unit_count z from to) id z s from to))
      ≡ sets room w (all_numbers (unit_pieces (unit_count z a to) id z s a to))

-- Before the first piece.
pub written_none : {id z s from to at : ℕ} {lent : List ℕ} {a w : ℕ} → from < to → a ≡ from → w ≡ at
    → Written id z s from to at lent a w lent
written_none h p q = rw (p, q) record { within = h; kept = refl; place = refl; stored = refl }

module _ {z s a left stripe row byte : ℕ} (hz : 0 < z) (hs : 0 < s) (k : Known z s a left stripe row byte) where
  -- The unit ends `left` bytes on, and the next one begins there.
  ends : a % z + left ≡ z
  ends = omega (arith, k.left_is, mod-lt a hz)

  next_is : unit_end z a ≡ a + left
  next_is = omega (arith, unit_end_lem z a hz, k.left_is)

  -- The unit still has a byte.
  pub left_some : 0 < left
  left_some = omega (arith, ends, mod-lt a hz)

  -- The unit ends no later in the object than in the file.
  pub row_end : row + z ≤ a + left
  unfolding object_byte
  row_end = omega (arith, k.row_is, object_byte_le z s a, ends)

  -- The stripe is one of the component's.
  pub stripe_less : stripe < s
  stripe_less = omega (arith, k.stripe_is, stripe_below z s a hs)

  -- What is known of the first byte of the next unit: after the last stripe, and after any other.
  pub after_last : {stripe' row' : ℕ} → stripe + 1 ≡ s → stripe' ≡ 0 → row' ≡ row + z
      → Known z s (a + left) z stripe' row' row'
  after_last h t r =
      let n = next_on_first_stripe z s a left hz ends (omega (arith, h, k.stripe_is)) in
      known_first (unit_next_begin z a left hz ends) (omega (arith, t, n.0))
      (omega (arith, r, n.1, k.row_is, add-mul (unit_of z a / s) 1 z))

  pub after_other : {stripe' row' : ℕ} → (stripe + 1 ≡ s → ⊥) → stripe' ≡ stripe + 1 → row' ≡ row
      → Known z s (a + left) z stripe' row' row'
  after_other h t r =
      let n = next_on_next_stripe z s a left hz ends (omega (arith, h, stripe_less, k.stripe_is)) in
      known_first (unit_next_begin z a left hz ends) (omega (arith, t, n.0, k.stripe_is))
      (omega (arith, r, n.1, k.row_is))

  module _ {id from to at w : ℕ} {lent room : List ℕ} (v : Written id z s from to at lent a w room) where
    -- There is room for one more piece.
    pub one_more : at + 5 * unit_count z from to ≤ length lent → w + 5 ≤ length room
    one_more h = omega (arith, v.place, v.kept, unit_count_within z a to hz v.within)

    -- The five numbers that the loop stores are those of the piece from a to b.
    piece_stored : (b n : ℕ) {room' : List ℕ} → n ≡ b - a
        → room' ≡ sets room w (piece_numbers record { offset = a; length = n; id = id; stripe = stripe; byte = byte })
        → room' ≡ sets room w (piece_numbers (piece_from id z s a b))
    piece_stored b n h e = e ∙ rw (h, k.stripe_is, k.byte_is)

    -- After the piece that ends with this unit.
    pub written_next : {a' w' : ℕ} {room' : List ℕ} → left < to - a → a' ≡ a + left → w' ≡ w + 5
        → length room' ≡ length room
        → room' ≡ sets room w (piece_numbers record {
          offset = a;
          length = left;
          id = id;
          stripe = stripe;
          byte =
              byte;
        })
        → Written id z s from to at lent a' w' room'
    written_next {room'} h p q l e =
        let n : unit_end z a < to = omega (arith, next_is) in
        let c : unit_count z a to ≡ suc (unit_count z (a + left) to) = rw next_is at (unit_count_next z a to hz n) in
        let ps = unit_pieces (unit_count z (a + left) to) id z s (a + left) to in
        let u : unit_pieces (unit_count z a to) id z s a to ≡ piece_from id z s a (a + left) ∷ ps
        = rw next_is at (units_next id z s a to hz n) in
        rw (p, q) record {
          within = omega arith;
          kept = l ∙ v.kept;
          place = omega (arith, v.place, c);
          stored = v.stored
              ∙ rw (u, piece_stored (a + left) left (omega arith) e)
              (sets_append room w (piece_numbers (piece_from id z s a (a + left))) (all_numbers ps));
        }

    -- After the last piece, which ends at `to`.
    pub written_last : {w' : ℕ} {room' : List ℕ} → to - a ≤ left → w' ≡ w + 5
        → room' ≡ sets room w (piece_numbers record {
          offset = a;
          length = to - a;
          id = id;
          stripe = stripe;
          byte =
              byte;
        })
        → (room' ≡ sets lent at (all_numbers (unit_pieces (unit_count z from to) id z s from to)))
        × (w' ≡ at + 5 * unit_count z from to)
    written_last h q e =
        let n : to ≤ unit_end z a = omega (arith, next_is) in (
          piece_stored to (to - a) refl e ∙ sym (v.stored ∙ rw (units_last id z s a to hz v.within n)),
          omega (arith, q, v.place, unit_count_last z a to hz v.within n),
        )
