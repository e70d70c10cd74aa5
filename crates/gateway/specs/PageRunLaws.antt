-- Laws of the pages of a layout, one after the other: those from page k on are page k and those from page k + 1 on.
use Rattle.std.specs.Prelude.{ℕ, suc, ◌+◌, ◌-◌, ◌≤◌, ◌<◌, ◌≡◌, refl, List, [], ◌++◌, take, drop, length, Ok, Err, true, false}
use Rattle.std.proofs.Common.{sym, ap, ◌∙◌, append-nil, append_assoc, arith, zero-add, add-one, length-drop, length-append, drop_of_length-le, take_all, drop-drop, le-leb, ◌⊎◌, ⊎_elim, zero}
use Rattle.std.proofs.lemmas.List.Edits.{sets, sets-eq}
use Rattle.lists.specs.Bools.{bool_cases}
use Rattle.layout.specs.declared.Layout.{Layout}
use Rattle.layout.specs.Records.{view}
use Rattle.paging.specs.Paging.{is_some, from_page, written_page, write_refusal, out_answer, out_buffer}
use Rattle.paging.specs.PagingLaws.{written_le}
use Rattle.round_trip.specs.Pages.{written_pages}
use Rattle.gateway.specs.HostGrowth.{pages_of}
use Rattle.gateway.specs.LentWords.{pages_from}

-- All pages are those from page 0 on.
pub pages_start : (l : Layout) → pages_of l ≡ pages_from l 0
unfolding pages_from written_pages
pages_start l = refl

-- There are none from page 16 on.
pub pages_end : (l : Layout) (k : ℕ) → 16 ≤ k → pages_from l k ≡ []
unfolding pages_from
pages_end l k h = let n : 16 - k ≡ 0 = omega arith in rw n

-- What a call says that wrote a page, and one that did not.
wrote : (m : ℕ) (page buffer : List ℕ) (n : ℕ) → Ok n ≡ out_answer m page
    → (m ≡ 0) × (n ≡ length page) × (out_buffer m page buffer ≡ sets buffer 0 page)
unfolding out_answer out_buffer
wrote zero page buffer n e = (refl, cc, refl)
wrote (suc m) page buffer n e = cc

not_wrote : (m : ℕ) (page buffer : List ℕ) (n : ℕ) → Err n ≡ out_answer m page → (0 < m) × (out_buffer m page buffer ≡ buffer)
unfolding out_answer out_buffer
not_wrote zero page buffer n e = cc
not_wrote (suc m) page buffer n e = (omega arith, refl)

module _ (l : Layout) (k : ℕ) (h : k < 16) where
  -- The turns that are left before page 16.
  turns : 16 - k ≡ suc (16 - suc k)
  turns = omega arith

  -- If there is page k, it is followed by those from page k + 1 on;
  there_is : is_some (from_page k (view l)) ≡ true → pages_from l k ≡ written_page l k ++ pages_from l (k + 1)
  unfolding pages_from
  there_is e = rw (turns, e, add-one k)

  -- if there is none, there is none after it.
  there_is_none : is_some (from_page k (view l)) ≡ false → pages_from l k ≡ []
  unfolding pages_from
  there_is_none e = rw (turns, e)

  -- A page that was written,
  pub page_wrote : (buffer : List ℕ) (n : ℕ) → Ok n ≡ out_answer (write_refusal l k (length buffer)) (written_page l k)
      → let page = written_page l k in
      (n ≡ length page) × (n ≤ 512) × (pages_from l k ≡ page ++ pages_from l (k + 1))
      × (out_buffer (write_refusal l k (length buffer)) page buffer ≡ sets buffer 0 page)
  unfolding write_refusal
  page_wrote buffer n e =
      let page = written_page l k in
      let w = wrote (write_refusal l k (length buffer)) page buffer n e in
      bool_cases (is_some (from_page k (view l)))
      (λ q. (w.1, omega (arith, w.1, written_le l k), there_is q, w.2))
      (λ q. let z : ◌≡◌ {A = ℕ} 4 0 = rw q at w.0 in absurd (omega arith))

  -- and one that was not, though there is room for it.
  pub page_missing : (buffer : List ℕ) (n : ℕ) → length (pages_from l k) ≤ length buffer ⊎ 512 ≤ length buffer
      → Err n ≡ out_answer (write_refusal l k (length buffer)) (written_page l k)
      → (pages_from l k ≡ []) × (out_buffer (write_refusal l k (length buffer)) (written_page l k) buffer ≡ buffer)
  unfolding write_refusal
  page_missing buffer n room e =
      let page = written_page l k in
      let w = not_wrote (write_refusal l k (length buffer)) page buffer n e in
      bool_cases (is_some (from_page k (view l)))
      (λ q.
      let fits : length page ≤ length buffer =
      ⊎_elim
      (λ (r : length (pages_from l k) ≤ length buffer).
      omega (arith, ap length (there_is q), length-append page (pages_from l (k + 1))))
      (λ (r : 512 ≤ length buffer). omega (arith, written_le l k)) room in
      let z : 0 < 0 = rw (q, le-leb (length page) (length buffer) fits) at w.0 in
      absurd (omega arith))
      (λ q. (there_is_none q, w.1))

-- Bytes stored at the start of the part from place p on, and that part put back, are bytes stored at place p.
pub part_back : (xs v : List ℕ) (p : ℕ) → p + length v ≤ length xs
    → take p xs ++ (sets (take (length xs - p) (drop p xs)) 0 v ++ drop (length xs - p) (drop p xs)) ≡ sets xs p v
part_back xs v p h =
    let rest = drop p xs in
    let n = length-drop p xs in
    rw (
      take_all (length xs - p) rest (omega arith),
      drop_of_length-le rest {i = length xs - p} (omega arith),
      append-nil (sets rest 0 v),
      sets-eq v rest 0 (omega arith),
      zero-add (length v),
      drop-drop (length v) p xs,
    )
    (sym (append_assoc (take p xs) v (drop (p + length v) xs)) ∙ sym (sets-eq v xs p h))
