-- The answer to a request, and the lent numbers, under the number of its refusal.
use Rattle.std.specs.Prelude.{ℕ, ◌+◌, ◌≡◌, refl, List, length}
use Rattle.std.proofs.lemmas.List.Edits.{sets}
use Rattle.mapping.specs.declared.Span.{Span}
use Rattle.mapping.specs.Answers.{gives, refuses, answer}
use Rattle.mapping.specs.AnswerLaws.{answer_refused}
use Rattle.mapping.specs.Cutting.{pieces_of, piece_count, refusal_by, all_numbers, room_after}
use Rattle.mapping.specs.CuttingLaws.{room_refused}

-- The request of m bytes from offset a, under the number r of its refusal or 0.
module _ (end a m : ℕ) (xs : List Span) (room : List ℕ) (r : ℕ) (e : r ≡ refusal_by end a m (length room) xs) where
  -- A request that is refused.
  pub cut_refused : (r ≡ 0 → ⊥)
      → (refuses r ≡ answer (refusal_by end a m (length room) xs) (piece_count a (a + m) xs))
      × (room ≡ room_after (refusal_by end a m (length room) xs) (pieces_of a (a + m) xs) room)
  cut_refused h =
      rw (← e) (answer_refused r (piece_count a (a + m) xs) h, room_refused r (pieces_of a (a + m) xs) room h)

  -- A request that is accepted.
  pub cut_accepted : r ≡ 0
      → (gives (piece_count a (a + m) xs) ≡ answer (refusal_by end a m (length room) xs) (piece_count a (a + m) xs))
      × (sets room 0 (all_numbers (pieces_of a (a + m) xs))
      ≡ room_after (refusal_by end a m (length room) xs) (pieces_of a (a + m) xs) room)
  unfolding room_after
  cut_accepted h = rw (← e, h) (refl, refl)
