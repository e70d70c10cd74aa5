-- What a loop over the first n elements of an array asks for: the part from i on is the element at i and the part after it.
use Rattle.std.specs.Prelude.{ℕ, zero, suc, ◌+◌, ◌-◌, ◌≤◌, ◌<◌, ◌≡◌, refl, List, [], ◌∷◌, ◌++◌, map, length, get_or, take, drop, set}
use Rattle.std.proofs.Common.{sym, ap, ◌∙◌, append-nil, arith, add-one, add-zero, add-suc, suc-add, length-take, drop_of_length-le, drop-cons, get_or-take, take-suc, length-take-le, length-drop, take_all}
use Rattle.std.proofs.lemmas.List.{map-append, length-map, set_at, get_or_at}
use Rattle.std.proofs.Math.Seq.{slice, take-append_seam, take-length, drop-length, length_front, append_snoc}
use Rattle.std.proofs.lemmas.List.Edits.{sets, sets-eq}

module _ {A : Type 0} (l : List A) (n i : ℕ) where
  pub slice_next : (d : A) → i < n → i < length l → slice i n l ≡ get_or l i d ∷ slice (i + 1) n l
  slice_next d h k =
      let e : i < length (take n l) = omega (arith, length-take n l) in
      rw (drop-cons (take n l) i d e, get_or-take n l i d h, add-one)

  pub slice_done : n ≤ i → slice i n l ≡ []
  slice_done h = drop_of_length-le (take n l) {i = i} (omega (arith, length-take n l))

-- The first i + 1 elements are the first i and the one at i.
pub take_next : {A : Type 0} (l : List A) (i : ℕ) (d : A) → i < length l → take (i + 1) l ≡ take i l ++ (get_or l i d ∷ [])
take_next l i d h = rw add-one (take-suc l i d h)

-- The part from i on is the element at i and the part after it.
pub drop_next : {A : Type 0} (l : List A) (i : ℕ) (d : A) → i < length l → drop i l ≡ get_or l i d ∷ drop (i + 1) l
drop_next l i d h = rw add-one (drop-cons l i d h)

-- Two runs of stores, one after the other, are one.
pub sets_append : {A : Type 0} (l : List A) (i : ℕ) (a b : List A) → sets l i (a ++ b) ≡ sets (sets l i a) (i + length a) b
sets_append l i [] b = rw add-zero
sets_append l i (x ∷ a) b = rw (add-suc, ← suc-add i (length a)) (sets_append (set l i x) (suc i) a b)

-- An element of a list is the same whatever is said to be past the list's end.
pub any_default : {A : Type 0} (l : List A) (i : ℕ) (d e : A) → i < length l → get_or l i d ≡ get_or l i e
any_default [] i d e h = absurd (omega arith)
any_default (a ∷ l) zero d e h = refl
any_default (a ∷ l) (suc i) d e h = any_default l i d e (omega arith)

-- The length of a list, told of the list mapped.
pub unmapped : {A B : Type 0} (l : List A) (g : A → B) {n : ℕ} → length (map g l) ≡ n → length l ≡ n
unmapped l g e = sym (length-map l g) ∙ e

-- A run of stores from place at + j on: the first of them, and the rest from at + (j + 1) on.
pub sets_next : {A : Type 0} (l : List A) (at j : ℕ) (x : A) (xs : List A) → sets l (at + j) (x ∷ xs) ≡ sets (set l (at + j) x) (at + (j + 1)) xs
sets_next {A} l at j x xs =
    let e : suc (at + j) ≡ at + (j + 1) = omega arith in
    ap (λ (k : ℕ). sets (set l (at + j) x) k xs) e

-- A list stored from the first place of a list that is at least as long is in its first places.
pub take_sets : {A : Type 0} (l v : List A) → length v ≤ length l → take (length v) (sets l 0 v) ≡ v
take_sets l v h = rw (sets-eq v l 0 (omega arith)) (take-append_seam v (drop (0 + length v) l))

-- A list stored from the first place of a list of the same length is all of it.
pub sets_whole : {A : Type 0} (l v : List A) → length v ≡ length l → sets l 0 v ≡ v
sets_whole l v h = rw (sets-eq v l 0 (omega arith), drop_of_length-le l {i = 0 + length v} (omega arith)) (append-nil v)

-- The part of a list from a position to its end.
pub part_rest : {A : Type 0} (l : List A) (k : ℕ) → take (length l - k) (drop k l) ≡ drop k l
part_rest l k = take_all (length l - k) (drop k l) (omega (arith, length-drop k l))

-- What is taken of each element of a list, as a list of its own: of the first k elements, and stored in a run.
module _ {A B : Type 0} (f : A → B) where
  pub take_map : (k : ℕ) (l : List A) → map f (take k l) ≡ take k (map f l)
  take_map zero l = refl
  take_map (suc k) [] = refl
  take_map (suc k) (a ∷ l) = ap (λ (bs : List B). f a ∷ bs) (take_map k l)

  pub sets_map : (s : List B) (p : ℕ) (l m : List A) → sets s p (map f (l ++ m)) ≡ sets (sets s p (map f l)) (p + length l) (map f m)
  sets_map s p l m = rw (map-append f l m, sets_append, length-map l f)

  pub take_sets_map : (s : List B) (l : List A) → length l ≤ length s → take (length l) (sets s 0 (map f l)) ≡ map f l
  take_sets_map s l h = rw (length-map l f) at (take_sets s (map f l) (rw (length-map l f) h))

-- A loop that puts f of each element in its place, from the first on.
module _ {A : Type 0} (f : A → A) where
  -- The list after k turns: f of each of the first k elements, and the rest as they were.
  abbrev pub map_first : ℕ → List A → List A
  map_first k l = map f (take k l) ++ drop k l

  -- It is as long as it was.
  pub first_length : (k : ℕ) (l : List A) → length (map_first k l) ≡ length l
  first_length k l = length_front l (map f (take k l)) k (length-map (take k l) f)

  -- One turn more is a store at the next place.
  pub first_next : (l : List A) (i : ℕ) (d : A) → i < length l
      → set (map_first i l) i (f (get_or (map_first i l) i d)) ≡ map_first (i + 1) l
  first_next l i d h =
      let done : List A = map f (take i l) in
      let rest : List A = drop (suc i) l in
      let x : A = get_or l i d in
      let n : length done ≡ i = length-map (take i l) f ∙ length-take-le i l (omega arith) in
      rw (drop-cons l i d h, get_or_at done x rest d i n, set_at done x rest (f x) i n, add-one, take-suc l i d h, map-append)
      (sym (append_snoc done (f x) rest))

  -- After all the turns it is the list mapped.
  pub first_all : (l : List A) → map_first (length l) l ≡ map f l
  first_all l = rw (take-length l, drop-length l, append-nil)
