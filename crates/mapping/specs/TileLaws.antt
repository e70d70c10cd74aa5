-- Pieces that tile a stretch of the file: two runs of them one after the other, and how many there are by the places
-- at which they end.
use Rattle.std.specs.Prelude.{ℕ, zero, suc, ◌+◌, ◌-◌, ◌≤◌, ◌<◌, ◌≡◌, refl, List, [], ◌∷◌, ◌++◌, Bool, true, false, length}
use Rattle.std.proofs.Common.{ap, ◌∙◌, arith, add-zero, add-suc}
use Rattle.mapping.specs.declared.Piece.{Piece}
use Rattle.mapping.specs.CutPlaces.{count_after}
use Rattle.mapping.specs.CutFacts.{Each, Tiles}

-- What holds of each piece of two runs holds of each piece of the two, one after the other.
pub each_append : (P : Piece → Type 0) (ps qs : List Piece) → Each P ps → Each P qs → Each P (ps ++ qs)
each_append P [] qs h k = k
each_append P (p ∷ ps) qs h k = (h.0, each_append P ps qs h.1 k)

-- What follows from a property of a piece holds of each piece, if the property does.
pub each_map : (P Q : Piece → Type 0) → ((p : Piece) → P p → Q p) → (ps : List Piece) → Each P ps → Each Q ps
each_map P Q f [] h = tt
each_map P Q f (p ∷ ps) h = (f p h.0, each_map P Q f ps h.1)

-- Pieces from a to m and pieces from m to b, one after the other, are pieces from a to b.
pub tiles_append : (a m b : ℕ) (ps qs : List Piece) → Tiles a m ps → Tiles m b qs → Tiles a b (ps ++ qs)
tiles_append a m b [] qs h k = rw h k
tiles_append a m b (p ∷ ps) qs h k = (h.0, h.1, tiles_append (a + p.length) m b ps qs h.2 k)

-- Pieces never end before they begin.
tiles_ordered : (a b : ℕ) (ps : List Piece) → Tiles a b ps → a ≤ b
tiles_ordered a b [] h = omega arith
tiles_ordered a b (p ∷ ps) h = omega (arith, tiles_ordered (a + p.length) b ps h.2)

-- Two tests that agree on the numbers count the same.
pub count_same : (t u : ℕ → Bool) (a n : ℕ) → ((q : ℕ) → a < q → q ≤ a + n → t q ≡ u q)
    → count_after t a n ≡ count_after u a n
count_same t u a zero h = refl
count_same t u a (suc n) h =
    rw (h (a + suc n) (omega arith) (omega arith), count_same t u a n (λ q l k. h q l (omega arith)))

module _ (t : ℕ → Bool) where
  -- The numbers after a, counted in two parts.
  count_parts : (a m n : ℕ) → count_after t a (m + n) ≡ count_after t a m + count_after t (a + m) n
  count_parts a m zero = rw (add-zero m) (omega arith)
  count_parts a m (suc n) =
      let e : a + suc (m + n) ≡ a + m + suc n = omega arith in
      rw (add-suc m n, e) (omega (arith, count_parts a m n))

  -- A test that no number passes counts none.
  count_none : (a n : ℕ) → ((q : ℕ) → a < q → q ≤ a + n → t q ≡ false) → count_after t a n ≡ 0
  count_none a zero h = refl
  count_none a (suc n) h =
      rw (h (a + suc n) (omega arith) (omega arith)) (omega (arith, count_none a n (λ q l k. h q l (omega arith))))

  -- A test that the last number alone passes counts one.
  count_last : (a n : ℕ) → 0 < n → ((q : ℕ) → a < q → q < a + n → t q ≡ false) → t (a + n) ≡ true
      → count_after t a n ≡ 1
  count_last a zero h k e = absurd (omega arith)
  count_last a (suc n) h k e = rw e (omega (arith, count_none a n (λ q l r. k q l (omega arith))))

  -- A piece ends where the test passes, and the test passes nowhere strictly inside it.
  pub record EndsAt (p : Piece) : Type 0 where
    pub inside : (q : ℕ) → p.offset < q → q < p.offset + p.length → t q ≡ false
    pub stops : t (p.offset + p.length) ≡ true

  -- If that holds of each piece, there are as many places as pieces.
  pub count_pieces : (a m : ℕ) (ps : List Piece) → Tiles a (a + m) ps → Each EndsAt ps → count_after t a m ≡ length ps
  count_pieces a m [] h k = let e : m ≡ 0 = omega arith in rw e
  count_pieces a m (p ∷ ps) h k =
      let n = p.length in
      let r = m - n in
      let o = tiles_ordered (a + n) (a + m) ps h.2 in
      let e : m ≡ n + r = omega arith in
      let f : a + m ≡ a + n + r = omega arith in
      let one : count_after t a n ≡ 1 = rw h.0 at (count_last p.offset n h.1 k.0.inside k.0.stops) in
      let rest : count_after t (a + n) r ≡ length ps = count_pieces (a + n) r ps (rw f at h.2) k.1 in
      ap (λ i. count_after t a i) e ∙ count_parts a n r ∙ rw (one, rest) (omega arith)
