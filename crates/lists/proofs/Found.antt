-- The position of the first test that fails, as an `Option`, where the tests of the first k elements are known to pass
-- and only the rest is asked.
use Rattle.std.specs.Prelude.{ℕ, suc, ◌+◌, ◌-◌, ◌≤◌, ◌<◌, ◌≡◌, refl, List, [], ◌∷◌, Option, Some, None, is_none}
use Rattle.std.specs.Prelude.{is_some, Bool, true, false, not, ltb, eqb, length, get_or, take, drop}
use Rattle.std.specs.List.{zip, list_any}
use Rattle.std.specs.Option.{option_map}
use Rattle.std.proofs.Common.{add-one, sym, ap, ◌∙◌, arith, length-drop, drop-cons, drop_of_length-le, get_or-drop}
use Rattle.std.proofs.Common.{ltb-true, ltb-false, lt-ltb, le-ltb, eq-eqb, ne_eqb}
use Rattle.std.proofs.lemmas.Bool.{eqb-true, eqb-false}
use Rattle.lists.specs.Bools.{bool_cases, clash}
use Rattle.lists.specs.Tests.{every, first_failed, along, after, ahead, each, first_that, found, failed_skip}
use Rattle.lists.specs.Tests.{none_failed, every_failed, length_along, drop_along, length_ahead, drop_ahead}
use Rattle.lists.specs.Counting.{elem, unseen, seen_with, fresh, after_seen}
use Rattle.lists.specs.Slices.{part_rest, take_next}

-- A position is found exactly if it is within the list.
pub found_in : (i n : ℕ) → i < n → found i n ≡ Some i
found_in i n h = rw (lt-ltb i n h)

pub found_past : (i n : ℕ) → n ≤ i → found i n ≡ None
found_past i n h = rw (le-ltb i n h)

-- The same position, found in the list and in the rest of it.
found_more : (k i n m : ℕ) → k + m ≡ n → (j : ℕ) → Some j ≡ found i m → Some (k + j) ≡ found (k + i) n
found_more k i n m e j s =
    bool_cases (ltb i m)
    (λ q. let h : i < m = ltb-true i m q in
    let w : j ≡ i = let t : Some j ≡ Some i = s ∙ rw q in cc in
    rw (found_in (k + i) n (omega arith), w))
    (λ q. let t : Some j ≡ None = s ∙ rw q in absurd cc)

found_none : (k i n m : ℕ) → k + m ≡ n → None ≡ found i m → None ≡ found (k + i) n
found_none k i n m e s =
    bool_cases (ltb i m)
    (λ q. let t : None ≡ Some i = s ∙ rw q in absurd cc)
    (λ q. let h : m ≤ i = ltb-false i m q in rw (found_past (k + i) n (omega arith)))

-- No position is found exactly if every test passes.
pub none_found : (ts : List Bool) (r : Option ℕ) (n : ℕ) → r ≡ found (first_failed ts) n → length ts ≡ n
    → is_none r ≡ every ts
none_found ts r n e len =
    bool_cases (every ts)
    (λ q. let w : n ≤ first_failed ts = omega (arith, every_failed ts q) in rw (e, found_past (first_failed ts) n w, q))
    (λ q. bool_cases (ltb (first_failed ts) n)
    (λ p. rw (e, p, q))
    (λ p. let w : length ts ≤ first_failed ts = omega (arith, ltb-false (first_failed ts) n p) in
    clash (none_failed ts w) q))

module _ (ts : List Bool) (k n : ℕ) (h : k ≤ n) (len : length ts ≡ n) (e : every (take k ts) ≡ true) where
  pub rest_some : (i : ℕ) → Some i ≡ found (first_failed (drop k ts)) (n - k) → Some (k + i) ≡ found (first_failed ts) n
  rest_some i s = rw (failed_skip k ts (omega arith) e) (found_more k _ n (n - k) (omega arith) i s)

  pub rest_none : None ≡ found (first_failed (drop k ts)) (n - k) → None ≡ found (first_failed ts) n
  rest_none s = rw (failed_skip k ts (omega arith) e) (found_none k _ n (n - k) (omega arith) s)

-- One test for each element by itself: the first that fails.
module _ {A : Type 0} (ok : A → Bool) where
  pub failed_that : (l : List A) → first_failed (each ok l) ≡ first_that (λ (a : A). not (ok a)) l
  failed_that [] = refl
  failed_that (a ∷ l) = bool_cases (ok a) (λ q. rw q (omega (arith, failed_that l))) (λ q. rw q)

  module _ (l : List A) (k : ℕ) (h : k ≤ length l) (e : every (take k (each ok l)) ≡ true) where
    pub each_some : (i : ℕ) → Some i ≡ found (first_that (λ (a : A). not (ok a)) (drop k l)) (length (drop k l))
        → Some (k + i) ≡ found (first_failed (each ok l)) (length l)
    each_some i s =
        rest_some (each ok l) k (length l) h (length_ahead _ l) e i
        (rw (drop_ahead, failed_that (drop k l), ← length-drop k l) s)

    pub each_none : None ≡ found (first_that (λ (a : A). not (ok a)) (drop k l)) (length (drop k l))
        → None ≡ found (first_failed (each ok l)) (length l)
    each_none s =
        rest_none (each ok l) k (length l) h (length_ahead _ l) e
        (rw (drop_ahead, failed_that (drop k l), ← length-drop k l) s)

-- A loop with a state over the rest of a list, from its element k on: i elements of the rest are passed, and the state
-- is s'.
module _ {S A : Type 0} (ok : S → A → Bool) (next : S → A → S) (s : S) (l : List A) (k i : ℕ) (s' : S) where
  abbrev pub Passes : Type 0
  Passes = first_failed (along ok next s l) ≡ k + i + first_failed (along ok next s' (drop (k + i) l))

  pub passes_none : Passes → length (take (length l - k) (drop k l)) ≤ i → k ≤ length l
      → None ≡ found (first_failed (along ok next s l)) (length l)
  passes_none p h w =
      let n : length l ≤ k + i = omega (arith, rw part_rest at h, length-drop k l) in
      rw (p, drop_of_length-le l {i = k + i} n) (sym (found_past (k + i + 0) (length l) (omega arith)))

  module _ (d : A) (h : i < length (take (length l - k) (drop k l))) where
    within : k + i < length l
    within = omega (arith, rw part_rest at h, length-drop k l)

    there : get_or (take (length l - k) (drop k l)) i d ≡ get_or l (k + i) d
    there = rw part_rest (get_or-drop k l i d)

    split : drop (k + i) l ≡ get_or (take (length l - k) (drop k l)) i d ∷ drop (k + (i + 1)) l
    split = let e : suc (k + i) ≡ k + (i + 1) = omega arith in rw (there, ← e) (drop-cons l (k + i) d within)

    pub passes_some : Passes → ok s' (get_or (take (length l - k) (drop k l)) i d) ≡ false
        → Some (k + i) ≡ found (first_failed (along ok next s l)) (length l)
    passes_some p e =
        let w : first_failed (along ok next s l) ≡ k + i = p ∙ rw (split, e) (omega arith) in
        rw w (sym (found_in (k + i) (length l) within))

    pub passes_more : Passes → ok s' (get_or (take (length l - k) (drop k l)) i d) ≡ true
        → first_failed (along ok next s l) ≡ k + (i + 1) + first_failed
        (along ok next (next s' (get_or (take (length l - k) (drop k l)) i d)) (drop (k + (i + 1)) l))
    passes_more p e = p ∙ rw (split, e) (omega arith)

-- No element of the rest is passed yet.
pub passes_start : {S A : Type 0} (ok : S → A → Bool) (next : S → A → S) (s : S) (l : List A) (k : ℕ) (s' : S)
    → k ≤ length l
    → every (take k (along ok next s l)) ≡ true → s' ≡ after next s (take k l) → Passes ok next s l k 0 s'
passes_start ok next s l k s' h e w =
    let z : k + 0 ≡ k = omega arith in
    rw (z, w, ← drop_along) (failed_skip k (along ok next s l) (omega (arith, length_along ok next s l)) e)

-- A position one further, in a list that is one longer.
pub found_suc : (i n : ℕ) → found (suc i) (suc n) ≡ option_map suc (found i n)
found_suc i n =
    bool_cases (ltb i n)
    (λ q. let h = ltb-true i n q in rw (q, found_in (suc i) (suc n) (omega arith)))
    (λ q. let h = ltb-false i n q in rw (q, found_past (suc i) (suc n) (omega arith)))

found_zero : (n : ℕ) → found 0 (suc n) ≡ Some 0
found_zero n = found_in 0 (suc n) (omega arith)

-- One test for each element and the one that follows it, and none for the last: the first that fails, looked for in the
-- pairs.
module _ {A : Type 0} (ok : A → List A → Bool) (joined : A → A → Bool)
    (none : (a : A) → ok a [] ≡ true) (one : (a b : A) (l : List A) → ok a (b ∷ l) ≡ joined a b) where
  pub found_pair : (l : List A)
      → found (first_that (λ (p : A × A). not (joined p.0 p.1)) (zip l (drop 1 l))) (length (zip l (drop 1 l)))
      ≡ found (first_failed (ahead ok l)) (length l)
  found_pair [] = refl
  found_pair (a ∷ []) = rw none
  found_pair (a ∷ b ∷ l) =
      bool_cases (joined a b)
      (λ q. rw (one, q, found_suc, found_suc) (ap (option_map suc) (found_pair (b ∷ l))))
      (λ q. rw (one, q) (found_zero (length (zip (b ∷ l) l)) ∙ sym (found_zero (length (b ∷ l)))))

-- A loop with a state over a list: j elements are passed, and the state is s'.
module _ {S A : Type 0} (ok : S → A → Bool) (next : S → A → S) (s : S) (l : List A) (j : ℕ) (s' : S) where
  abbrev pub PassesTo : Type 0
  PassesTo = first_failed (along ok next s l) ≡ j + first_failed (along ok next s' (drop j l))

  pub at_start : j ≤ length l → every (take j (along ok next s l)) ≡ true → s' ≡ after next s (take j l) → PassesTo
  at_start h e w = rw (w, ← drop_along) (failed_skip j (along ok next s l) (omega (arith, length_along ok next s l)) e)

  pub at_end : PassesTo → length l ≤ j → None ≡ found (first_failed (along ok next s l)) (length l)
  at_end p h = rw (p, drop_of_length-le l {i = j} h) (sym (found_past (j + 0) (length l) (omega arith)))

  module _ (d : A) (h : j < length l) where
    pub at_fault : PassesTo → ok s' (get_or l j d) ≡ false
        → Some j ≡ found (first_failed (along ok next s l)) (length l)
    at_fault p e =
        let w : first_failed (along ok next s l) ≡ j = p ∙ rw (drop-cons l j d h, e) (omega arith) in
        rw w (sym (found_in j (length l) h))

    pub at_pass : PassesTo → ok s' (get_or l j d) ≡ true
        → first_failed (along ok next s l) ≡ j + 1 + first_failed
        (along ok next (next s' (get_or l j d)) (drop (j + 1) l))
    at_pass p e = p ∙ rw (drop-cons l j d h, e, add-one) (omega arith)

-- The scan for the first element that equals one before it.
module _ {A : Type 0} (same : A → A → Bool) (l : List A) (j : ℕ) where
  abbrev pub Fresh : Type 0
  Fresh = PassesTo (unseen same) seen_with [] l j (take j l)

  pub fresh_start : j ≤ length l → every (take j (fresh same l)) ≡ true → Fresh
  fresh_start h e = at_start (unseen same) seen_with [] l j (take j l) h e (sym (after_seen [] (take j l)))

  pub fresh_end : Fresh → length l ≤ j → None ≡ found (first_failed (fresh same l)) (length l)
  fresh_end p h = at_end (unseen same) seen_with [] l j (take j l) p h

  module _ (d : A) (h : j < length l) where
    pub fresh_fault : Fresh → elem same (get_or l j d) (take j l) ≡ true
        → Some j ≡ found (first_failed (fresh same l)) (length l)
    fresh_fault p e = at_fault (unseen same) seen_with [] l j (take j l) d h p (rw e)

    pub fresh_pass : Fresh → elem same (get_or l j d) (take j l) ≡ false
        → first_failed (fresh same l) ≡ j + 1 + first_failed
        (along (unseen same) seen_with (take (j + 1) l) (drop (j + 1) l))
    fresh_pass p e = rw (take_next l j d h) (at_pass (unseen same) seen_with [] l j (take j l) d h p (rw e))

-- What `contains` answers.
pub list_any-elem : {A : Type 0} (same : A → A → Bool) → ((a b : A) → same a b ≡ same b a) → (x : A) (l : List A)
    → list_any (λ (y : A). same y x) l ≡ elem same x l
list_any-elem same flip x [] = refl
list_any-elem same flip x (a ∷ l) = rw (flip a x, list_any-elem same flip x l)

pub eqb_flip : (a b : ℕ) → eqb a b ≡ eqb b a
eqb_flip a b =
    bool_cases (eqb a b)
    (λ e. rw (e, eq-eqb b a (sym (eqb-true a b e))))
    (λ e. rw (e, ne_eqb b a (λ h. eqb-false a b e (sym h))))

is_some_not : {A : Type 0} (r : Option A) → is_some r ≡ not (is_none r)
is_some_not None = refl
is_some_not (Some a) = refl

-- A position is found exactly if a test fails.
pub some_found : (ts : List Bool) (r : Option ℕ) (n : ℕ) → r ≡ found (first_failed ts) n → length ts ≡ n
    → is_some r ≡ not (every ts)
some_found ts r n e len = is_some_not r ∙ ap not (none_found ts r n e len)
