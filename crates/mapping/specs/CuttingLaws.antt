-- The laws of cutting that its code asks for: the pieces of a component by its flag, the numbers that the pieces of a
-- list of components are written as, what refuses a request, and the answer and the lent numbers under the number of a
-- refusal.
use Rattle.std.specs.Prelude.{ℕ, zero, suc, ◌+◌, ◌-◌, ◌*◌, ◌^◌, ◌<◌, ◌≤◌, ◌≡◌, refl, List, [], ◌∷◌, Bool, false, cond, ◌&&◌, ltb, length}
use Rattle.std.proofs.Common.{sym, ap, ◌∙◌, arith}
use Rattle.std.proofs.lemmas.List.{length-map}
use Rattle.std.proofs.Math.Bool.{true}
use Rattle.std.proofs.lemmas.List.Edits.{sets}
use borrow.Author.Tests.{lt-ltb, le-ltb, ltb-true}
use Rattle.lists.specs.Bools.{bool_cases}
use Rattle.lists.specs.Tests.{any_of}
use Rattle.lists.specs.Slices.{sets_append}
use Rattle.layout.specs.declared.Component.{Component}
use Rattle.layout.specs.Facts.{IsInit, Fields}
use Rattle.layout.specs.FactLaws.{kind_init, keeps_facts}
use Rattle.mapping.specs.declared.Span.{Span}
use Rattle.mapping.specs.declared.Piece.{Piece}
use Rattle.mapping.specs.Answers.{Answer, gives, refuses, answer}
use Rattle.mapping.specs.AnswerLaws.{gives_or_refuses, answer_gives}
use Rattle.mapping.specs.Components.{AreValid}
use Rattle.mapping.specs.Spans.{span_of, spans_of}
use Rattle.mapping.specs.Cutting.{unit_count, part_begin, part_end, part_count, part_pieces, pieces_of, piece_count}
use Rattle.mapping.specs.Cutting.{not_init_asked, too_many, refusal_by, all_numbers, room_after}
use Rattle.mapping.specs.Spans.{AllCuttable}
use Rattle.mapping.specs.UnitLaws.{length_units, length_numbers, numbers_append}

-- Components that keep the rule of the fields can be cut.
pub fields_cuttable : (cs : List Component) → Fields cs → AllCuttable (spans_of cs)
fields_cuttable [] f = tt
fields_cuttable (c ∷ cs) f =
    let init : c.init ≡ true → IsInit c = λ i. kind_init f.1 i in (
      λ i. let k = (init i).striped in (omega (arith, k.size.nonzero, k.size.multiple), k.some),
      fields_cuttable cs f.2,
    )

-- So can those of a valid layout, and they are at most 16.
pub valid_cuttable : (cs : List Component) → AreValid cs → (length (spans_of cs) ≤ 16) × AllCuttable (spans_of cs)
valid_cuttable cs v =
    (rw (length-map cs span_of) v.1, fields_cuttable cs (keeps_facts false cs v.2).fields)

module _ (a b : ℕ) (c : Span) where
  -- The number of pieces of a component by its init flag.
  abbrev count_by : Bool → ℕ
  count_by init = cond init (unit_count c.stripe_size (part_begin a c) (part_end b c)) 0

  -- A component that is not init has no pieces.
  pub part_not_init : c.init ≡ false → part_count a b c ≡ 0
  part_not_init e = ap count_by e

  -- One that is init has a piece for each unit.
  pub part_init : c.init ≡ true → unit_count c.stripe_size (part_begin a c) (part_end b c) ≡ part_count a b c
  part_init e = sym (ap count_by e)

  -- If it has no pieces, nothing is written.
  pub part_none : (room : List ℕ) (at : ℕ) → part_count a b c ≡ 0 → room ≡ sets room at (all_numbers (part_pieces a b c))
  part_none room at e = rw e

  -- Its pieces are five numbers each.
  length_part : length (all_numbers (part_pieces a b c)) ≡ 5 * part_count a b c
  length_part = length_numbers (part_pieces a b c) ∙ rw length_units

  -- The pieces of a list of components are written one component after the other.
  pub pieces_next : (room : List ℕ) (at : ℕ) (xs : List Span)
      → sets room at (all_numbers (pieces_of a b (c ∷ xs)))
      ≡ sets (sets room at (all_numbers (part_pieces a b c))) (at + 5 * part_count a b c) (all_numbers (pieces_of a b xs))
  pieces_next room at xs = rw (numbers_append, sets_append, length_part)

-- What refuses a request of m bytes from offset a, into n lent numbers, is asked in this order.
module _ (end a m n : ℕ) (xs : List Span) where
  -- The test of 9: it is met,
  abbrev past : Bool
  past = ltb (2 ^ 64 - 1) (a + m)

  pub refused_9 : 2 ^ 64 - 1 < a + m → 9 ≡ refusal_by end a m n xs
  unfolding refusal_by
  refused_9 h = let t : past ≡ true = lt-ltb (2 ^ 64 - 1) (a + m) h in rw t

  -- or it is not, and then that of 10 is,
  module _ (within : a + m ≤ 2 ^ 64 - 1) where
    not_past : past ≡ false
    not_past = le-ltb (2 ^ 64 - 1) (a + m) within

    pub refused_10 : (ltb 0 m && ltb end (a + m)) ≡ true → 10 ≡ refusal_by end a m n xs
    unfolding refusal_by
    refused_10 t = rw (not_past, t)

    -- It is met if the request has a byte and ends past the last component's end.
    pub past_end : 0 < m → end < a + m → (ltb 0 m && ltb end (a + m)) ≡ true
    past_end h k = rw (lt-ltb 0 m h, lt-ltb end (a + m) k)

    pub within_end : (0 < m → a + m ≤ end) → (ltb 0 m && ltb end (a + m)) ≡ false
    within_end h =
        bool_cases (ltb 0 m) (λ t. rw (t, le-ltb end (a + m) (h (ltb-true 0 m t)))) (λ t. rw t)

    -- or it is not, and then that of 11 is,
    module _ (before : (ltb 0 m && ltb end (a + m)) ≡ false) where
      pub refused_11 : any_of (not_init_asked a (a + m)) xs ≡ true → 11 ≡ refusal_by end a m n xs
      unfolding refusal_by
      refused_11 t = rw (not_past, before, t)

      -- or it is not, and then that of 12 is, by the number of pieces, or nothing refuses.
      module _ (init : any_of (not_init_asked a (a + m)) xs ≡ false) (pieces : ℕ) (counted : pieces ≡ piece_count a (a + m) xs) where
        pub refused_12 : (t : Bool) → too_many n pieces ≡ t → cond t 12 0 ≡ refusal_by end a m n xs
        unfolding refusal_by
        refused_12 t e = rw (not_past, before, init, ← counted, e)

      -- What is asked of the components gives 11, or the number of pieces.
      abbrev asked : Answer ℕ
      asked = answer (cond (any_of (not_init_asked a (a + m)) xs) 11 0) (piece_count a (a + m) xs)

      pub asked_refused : (r : ℕ) → refuses r ≡ asked
          → refuses r ≡ answer (refusal_by end a m n xs) (piece_count a (a + m) xs)
      asked_refused r e =
          bool_cases (any_of (not_init_asked a (a + m)) xs)
          (λ t. rw t at e ∙ rw (← refused_11 t))
          (λ t. absurd (gives_or_refuses _ r (sym (rw t at e))))

      pub asked_given : (k : ℕ) → gives k ≡ asked
          → (any_of (not_init_asked a (a + m)) xs ≡ false) × (k ≡ piece_count a (a + m) xs)
      asked_given k e =
          bool_cases (any_of (not_init_asked a (a + m)) xs)
          (λ t. absurd (gives_or_refuses k 11 (rw t at e)))
          (λ t. (t, sym (answer_gives 0 _ k (sym (rw t at e))).1))

-- Under the number of a refusal all lent numbers stay.
pub room_refused : (n : ℕ) (ps : List Piece) (room : List ℕ) → (n ≡ 0 → ⊥) → room ≡ room_after n ps room
unfolding room_after
room_refused zero ps room h = absurd (h refl)
room_refused (suc n) ps room h = refl

-- The request of m bytes from offset a, by the answer to it.
module _ (end a m : ℕ) (xs : List Span) (room : List ℕ) where
  -- The number of its refusal, or 0.
  abbrev number : ℕ
  number = refusal_by end a m (length room) xs

  -- A request that is refused.
  pub cut_refused : (r : ℕ) → refuses r ≡ answer number (piece_count a (a + m) xs)
      → room ≡ room_after number (pieces_of a (a + m) xs) room
  cut_refused r e = room_refused number (pieces_of a (a + m) xs) room (λ h. gives_or_refuses _ r (sym (rw h at e)))

  -- A request that is accepted.
  pub cut_accepted : (k : ℕ) → gives k ≡ answer number (piece_count a (a + m) xs)
      → (number ≡ 0)
      × (sets room 0 (all_numbers (pieces_of a (a + m) xs)) ≡ room_after number (pieces_of a (a + m) xs) room)
  unfolding room_after
  cut_accepted k e = let z = (answer_gives number (piece_count a (a + m) xs) k (sym e)).0 in (z, rw z refl)
