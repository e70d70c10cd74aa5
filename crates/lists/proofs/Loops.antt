-- A loop that looks for the first failed test of a rule over the first n elements of an array: what the position is at
-- the loop's start, when a test passes, when one fails, and at the end.
use Rattle.std.specs.Prelude.{ℕ, ◌+◌, ◌-◌, ◌≤◌, ◌<◌, ◌≡◌, List, [], Bool, true, false, length, get_or, take}
use Rattle.std.proofs.Common.{ap, ◌∙◌, arith, take-take, length-take-le}
use Rattle.std.proofs.Math.Seq.{slice}
use Rattle.lists.specs.Tests.{every, first_failed, along, after, after_append, ahead, failed_skip, length_along}
use Rattle.lists.specs.Tests.{length_ahead, drop_along, drop_ahead}
use Rattle.lists.specs.Counting.{elem, unseen, seen_with, fresh, after_seen}
use Rattle.lists.specs.Slices.{slice_next, slice_done, take_next}

module _ {A : Type 0} (l : List A) (n i : ℕ) where
  module _ {S : Type 0} (ok : S → A → Bool) (next : S → A → S) (s : S) where
    pub along_start : i ≤ n → n ≤ length l → every (take i (along ok next s (take n l))) ≡ true
        → first_failed (along ok next s (take n l)) ≡ i + first_failed
        (along ok next (after next s (take i l)) (slice i n l))
    along_start h k e =
        let w : i ≤ length (along ok next s (take n l)) = rw (length_along, length-take-le n l k) h in
        failed_skip i (along ok next s (take n l)) w e ∙ rw (drop_along, take-take i n l h)

    module _ (d : A) (h : i < n) (k : i < length l) where
      pub along_pass : ok s (get_or l i d) ≡ true
          → i + first_failed (along ok next s (slice i n l))
          ≡ (i + 1) + first_failed (along ok next (next s (get_or l i d)) (slice (i + 1) n l))
      along_pass e = rw (slice_next l n i d h k, e) (omega arith)

      pub along_fail : ok s (get_or l i d) ≡ false → i + first_failed (along ok next s (slice i n l)) ≡ i
      along_fail e = rw (slice_next l n i d h k, e) (omega arith)

    pub along_done : n ≤ i → i + first_failed (along ok next s (slice i n l)) ≡ i
    along_done h = rw (slice_done l n i h) (omega arith)

  module _ (ok : A → List A → Bool) where
    pub ahead_start : i ≤ n → n ≤ length l → every (take i (ahead ok (take n l))) ≡ true
        → first_failed (ahead ok (take n l)) ≡ i + first_failed (ahead ok (slice i n l))
    ahead_start h k e =
        let w : i ≤ length (ahead ok (take n l)) = rw (length_ahead, length-take-le n l k) h in
        failed_skip i (ahead ok (take n l)) w e ∙ rw drop_ahead

    module _ (d : A) (h : i < n) (k : i < length l) where
      pub ahead_pass : ok (get_or l i d) (slice (i + 1) n l) ≡ true
          → i + first_failed (ahead ok (slice i n l)) ≡ (i + 1) + first_failed (ahead ok (slice (i + 1) n l))
      ahead_pass e = rw (slice_next l n i d h k, e) (omega arith)

      pub ahead_fail : ok (get_or l i d) (slice (i + 1) n l) ≡ false → i + first_failed (ahead ok (slice i n l)) ≡ i
      ahead_fail e = rw (slice_next l n i d h k, e) (omega arith)

    pub ahead_done : n ≤ i → i + first_failed (ahead ok (slice i n l)) ≡ i
    ahead_done h = rw (slice_done l n i h) (omega arith)

-- The state after the first i elements, by the last of them.
pub after_before : {S A : Type 0} (next : S → A → S) (s : S) (l : List A) (i : ℕ) (d : A) → 0 < i → i ≤ length l
    → after next s (take i l) ≡ next (after next s (take (i - 1) l)) (get_or l (i - 1) d)
after_before next s l i d h k =
    let e : i ≡ i - 1 + 1 = omega arith in
    ap (λ (j : ℕ). after next s (take j l)) e ∙ rw (take_next l (i - 1) d (omega arith), after_append)

-- A scan for the first element that equals one before it: a row of the scan asks one element of all that are before it.
module _ {A : Type 0} (same : A → A → Bool) (l : List A) (n i : ℕ) where
  pub scan_start : i ≤ n → n ≤ length l → every (take i (fresh same (take n l))) ≡ true
      → first_failed (fresh same (take n l)) ≡ i + first_failed (along (unseen same) seen_with (take i l) (slice i n l))
  scan_start h k e = along_start l n i (unseen same) seen_with [] h k e ∙ rw (after_seen [] (take i l))

  module _ (d : A) (h : i < n) (k : i < length l) where
    pub scan_pass : elem same (get_or l i d) (take i l) ≡ false
        → i + first_failed (along (unseen same) seen_with (take i l) (slice i n l))
        ≡ (i + 1) + first_failed (along (unseen same) seen_with (take (i + 1) l) (slice (i + 1) n l))
    scan_pass e = along_pass l n i (unseen same) seen_with (take i l) d h k (rw e) ∙ rw (take_next l i d k)

    pub scan_hit : elem same (get_or l i d) (take i l) ≡ true
        → i + first_failed (along (unseen same) seen_with (take i l) (slice i n l)) ≡ i
    scan_hit e = along_fail l n i (unseen same) seen_with (take i l) d h k (rw e)

  pub scan_done : n ≤ i → i + first_failed (along (unseen same) seen_with (take i l) (slice i n l)) ≡ i
  scan_done h = along_done l n i (unseen same) seen_with (take i l) h

-- A row of the scan: does x equal one of the elements from j up to i?
module _ {A : Type 0} (same : A → A → Bool) (l : List A) (i j : ℕ) (x : A) where
  module _ (d : A) (h : j < i) (k : j < length l) where
    pub row_pass : same x (get_or l j d) ≡ false → elem same x (slice j i l) ≡ elem same x (slice (j + 1) i l)
    row_pass e = rw (slice_next l i j d h k, e)

    pub row_hit : same x (get_or l j d) ≡ true → elem same x (slice j i l) ≡ true
    row_hit e = rw (slice_next l i j d h k, e)

  pub row_done : i ≤ j → elem same x (slice j i l) ≡ false
  row_done h = rw (slice_done l i j h)
