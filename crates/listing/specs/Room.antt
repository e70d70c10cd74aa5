-- A text that is stored where there may be too little room for it: what is past the room is passed over.
use Rattle.std.specs.Prelude.{ℕ, suc, ◌≤◌, ◌≡◌, refl, List, [], ◌∷◌, ◌++◌, length, take, drop, min}
use Rattle.std.proofs.Common.{sym, ap, ◌∙◌, arith, inl, inr, take_all, drop_of_length-le}
use Rattle.std.proofs.lemmas.List.Edits.{sets}
use Rattle.std.proofs.Math.ListN.{set}
use Rattle.std.proofs.Math.Seq.{set_out, drop-nil, take-length, drop-length}
use Rattle.std.proofs.lemmas.Bool.{cases_lt}
use Rattle.listing.specs.Listing.{listing_of}

module _ {A : Type 0} where
  -- Stores past the end change nothing.
  pub sets_out : (l : List A) (i : ℕ) (v : List A) → length l ≤ i → sets l i v ≡ l
  sets_out l i [] h = refl
  sets_out l i (a ∷ v) h =
      let e = set_out l i a h in
      ap (λ (m : List A). sets m (suc i) v) e ∙ sets_out l (suc i) v (omega arith)

  -- Stores after the first place leave it.
  sets_after : (x : A) (l : List A) (i : ℕ) (v : List A) → sets (x ∷ l) (suc i) v ≡ x ∷ sets l i v
  sets_after x l i [] = refl
  sets_after x l i (a ∷ v) = sets_after x (set l i a) (suc i) v

  -- Stores from the first place on: as much as there is room for, and then what was there.
  pub sets_cut : (l v : List A) → sets l 0 v ≡ take (length l) v ++ drop (length v) l
  sets_cut [] v = sets_out [] 0 v (omega arith) ∙ sym (drop-nil (length v))
  sets_cut (x ∷ l) [] = refl
  sets_cut (x ∷ l) (a ∷ v) = sets_after a l 0 v ∙ ap (λ (m : List A). a ∷ m) (sets_cut l v)

-- A text of which as many bytes are copied as there is room for.
pub copied : {A : Type 0} (l v : List A) (n : ℕ) → n ≡ min (length v) (length l) → take n v ++ drop n l ≡ sets l 0 v
copied l v n e = elim (cases_lt (length l) (length v)) [
  | inl h ↦
      let room : n ≡ length l = omega arith in
      rw (room, drop-length l) (sym (rw (drop_of_length-le l {i = length v} (omega arith)) at (sets_cut l v)))
  | inr h ↦
      let all : n ≡ length v = omega arith in
      rw (all, take-length v) (sym (rw (take_all (length l) v h) at (sets_cut l v)))
]

-- What `list` leaves in the bytes `out`: as much of the listing as they have room for, and after it what was there.
pub cut_text : (input out : List ℕ)
    → sets out 0 (listing_of input) ≡ take (length out) (listing_of input) ++ drop (length (listing_of input)) out
cut_text input out = sets_cut out (listing_of input)
