-- The pages of a valid layout: each has a component and at most 512 bytes, and the list of all pages has each page at
-- its number.
use Rattle.std.specs.Prelude.{ℕ, zero, suc, ◌+◌, ◌-◌, ◌≤◌, ◌<◌, ◌≡◌, refl, List, [], ◌∷◌, true, false, cond, ltb, length, get_or, take, sum}
use Rattle.std.proofs.Common.{sym, ap, ◌∙◌, arith, zero-add, add-zero, add-suc, suc-add, length-drop, length-take-le, ltb-true, ltb-false, lt-ltb, le-ltb, le-leb}
use Rattle.std.proofs.Math.Dec.{leb-suc-suc}
use Rattle.std.proofs.lemmas.List.{length-map}
use Rattle.lists.specs.Bools.{bool_cases}
use Rattle.lists.specs.Slices.{take_map}
use Rattle.layout.specs.declared.Component.{Component}
use Rattle.layout.specs.declared.Layout.{Layout}
use Rattle.layout.specs.Records.{view}
use Rattle.layout.specs.Rules.{valid}
use Rattle.layout.specs.Facts.{Valid}
use Rattle.layout.specs.FactLaws.{valid_facts}
use Rattle.page.specs.Bytes.{size_of}
use Rattle.page.specs.BytesLaws.{total}
use Rattle.paging.specs.Paging.{in_page, page_start, sizes_of, from_page, first_page, is_some, written_page}
use Rattle.paging.specs.Paging.{write_refusal, out_refusal}
use Rattle.paging.specs.PagingLaws.{Fit, fit_drop, in_page_le, in_page_some, page_fits, page_start_next, page_start_mono}
use Rattle.paging.specs.PagingLaws.{page_number_le, sizes_drop, total_sum, written_le, valid_fit, is_some_drop}
use Rattle.round_trip.specs.Pages.{written_from, written_pages}

-- How many components of a layout are before page k.
abbrev pub start_of : Layout → ℕ → ℕ
start_of l k = page_start k (sizes_of (view l))

-- The components of the first page are as many as go into it.
pub length_first : (cs : List Component) → length (first_page cs) ≡ in_page (sizes_of cs)
length_first cs = length-take-le (in_page (sizes_of cs)) cs (omega (arith, in_page_le (sizes_of cs), length-map cs size_of))

-- They and the page's head take at most 512 bytes.
pub first_room : (cs : List Component) → 16 + total (first_page cs) ≤ 512
first_room cs =
    let n = in_page (sizes_of cs) in
    let e : total (first_page cs) ≡ sum (take n (sizes_of cs)) = total_sum (take n cs) ∙ ap sum (take_map size_of n cs) in
    omega (arith, page_fits (sizes_of cs))

-- "A page has 16 to 512 bytes": a page that is written has at most 512, so a buffer of 512 bytes is never too short.
pub page_room : (l : Layout) (k : ℕ) → length (written_page l k) ≤ 512
page_room l k = written_le l k

-- There is a page k exactly if fewer components are before it than there are.
pub page_there : (l : Layout) (k : ℕ) → is_some (from_page k (view l)) ≡ ltb (start_of l k) (length (view l))
page_there l k = is_some_drop (start_of l k) (view l)

-- If a valid layout has a page k,
module _ (l : Layout) (v : Valid l) (k : ℕ) (has : start_of l k < length (view l)) where
  -- that page has a component;
  pub page_some : 1 ≤ length (first_page (from_page k (view l)))
  page_some =
      let n = start_of l k in
      let rest = from_page k (view l) in
      let fit : Fit (sizes_of rest) = rw (sizes_drop n (view l)) (fit_drop n (sizes_of (view l)) (valid_fit l v)) in
      let some : 1 ≤ length (sizes_of rest) = omega (arith, length-map rest size_of, length-drop n (view l)) in
      omega (arith, length_first rest, in_page_some (sizes_of rest) fit some)

  -- more components are before the next page;
  pub start_rises : start_of l k < start_of l (suc k)
  start_rises =
      let rest = from_page k (view l) in
      let e : start_of l (suc k) ≡ start_of l k + in_page (sizes_of rest) =
      page_start_next k (sizes_of (view l)) ∙ rw (sizes_drop (start_of l k) (view l)) in
      omega (arith, page_some, length_first rest)

  -- and at least k are before it, since each page before it has one.
  pub number_le : k ≤ start_of l k
  number_le = page_number_le k (sizes_of (view l)) (valid_fit l v) (omega (arith, length-map (view l) size_of))

-- If there is a page k, the pages from there on begin with it.
pub written_cons : (n k : ℕ) (l : Layout) → is_some (from_page k (view l)) ≡ true
    → written_from (suc n) k l ≡ written_page l k ∷ written_from n (suc k) l
written_cons n k l e = rw e

-- If there is no page k, there are no pages from there on.
pub written_nil : (n k : ℕ) (l : Layout) → is_some (from_page k (view l)) ≡ false → written_from n k l ≡ []
written_nil zero k l e = refl
written_nil (suc n) k l e = rw e

-- At place j of the pages from page k on is page k + j.
listed_from : (n k j : ℕ) (l : Layout) → j < length (written_from n k l)
    → get_or (written_from n k l) j [] ≡ written_page l (k + j)
listed_from zero k j l h = absurd (omega arith)
listed_from (suc n) k zero l h =
    bool_cases (is_some (from_page k (view l)))
    (λ e. rw (e, add-zero))
    (λ e. absurd (omega (arith, h, ap length (written_nil (suc n) k l e))))
listed_from (suc n) k (suc j) l h =
    bool_cases (is_some (from_page k (view l)))
    (λ e. let w : suc j < suc (length (written_from n (suc k) l)) = rw e at h in
    rw (e, add-suc, ← suc-add k j) (listed_from n (suc k) j l (omega arith)))
    (λ e. absurd (omega (arith, h, ap length (written_nil (suc n) k l e))))

-- The list of all pages has page k at place k: "a call writes one page by number".
pub page_listed : (l : Layout) (k : ℕ) → k < length (written_pages l) → get_or (written_pages l) k [] ≡ written_page l k
unfolding written_pages
page_listed l k h = listed_from 16 0 k l h ∙ rw zero-add

-- If no component is left for page k, there is no page from there on, and the list from there on has none.
none_from : (l : Layout) (n k j : ℕ) → length (view l) ≤ start_of l k
    → is_some (from_page (k + j) (view l)) ≡ ltb j (length (written_from n k l))
none_from l n k j h =
    let len = length (view l) in
    let over : len ≤ start_of l (k + j) = omega (arith, page_start_mono k (k + j) (sizes_of (view l)) (omega arith)) in
    let none : written_from n k l ≡ [] = written_nil n k l (page_there l k ∙ le-ltb (start_of l k) len h) in
    rw (page_there l (k + j), le-ltb (start_of l (k + j)) len over, none) (sym (le-ltb j 0 (omega arith)))

-- There is a page k + j exactly if the list from page k on has a place j, provided its limit n is not below the number of
-- components that are left.
pages_from_lem : (l : Layout) → Valid l → (n k j : ℕ) → length (view l) ≤ start_of l k + n
    → is_some (from_page (k + j) (view l)) ≡ ltb j (length (written_from n k l))
pages_from_lem l v zero k j h = none_from l zero k j (omega arith)
pages_from_lem l v (suc n) k zero h =
    let len = length (view l) in
    bool_cases (ltb (start_of l k) len)
    (λ e. rw (add-zero, page_there l k, e) (sym (lt-ltb 0 (suc (length (written_from n (suc k) l))) (omega arith))))
    (λ e. none_from l (suc n) k zero (ltb-false (start_of l k) len e))
pages_from_lem l v (suc n) k (suc j) h =
    let len = length (view l) in
    let q : k + suc j ≡ suc k + j = omega arith in
    bool_cases (ltb (start_of l k) len)
    (λ e. let rises = start_rises l v k (ltb-true (start_of l k) len e) in
    rw (q, page_there l k, e)
    (pages_from_lem l v n (suc k) j (omega arith) ∙ sym (leb-suc-suc (suc j) (length (written_from n (suc k) l)))))
    (λ e. none_from l (suc n) k (suc j) (ltb-false (start_of l k) len e))

-- The list is all pages: there is a page k exactly if the list has a place k. From there on, writing is refused with
-- 4, "on writing, no such page".
pub pages_all : (l : Layout) → valid l ≡ true → (k : ℕ)
    → is_some (from_page k (view l)) ≡ ltb k (length (written_pages l))
unfolding written_pages
pages_all l e k =
    let v = valid_facts l e in
    ap (λ (n : ℕ). is_some (from_page n (view l))) (sym (zero-add k))
    ∙ pages_from_lem l v 16 0 k (omega (arith, v.whole, v.few))

-- So a call that writes page k of a valid layout into at least 512 bytes is refused, with 4, exactly if the list has no
-- place k.
pub write_refused : (l : Layout) → valid l ≡ true → (k room : ℕ) → 512 ≤ room
    → out_refusal l k room ≡ cond (ltb k (length (written_pages l))) 0 4
unfolding out_refusal write_refusal
write_refused l e k room h =
    rw (e, pages_all l e k, le-leb (length (written_page l k)) room (omega (arith, page_room l k)))

-- A valid layout has a page,
pub pages_some : (l : Layout) → valid l ≡ true → 1 ≤ length (written_pages l)
pages_some l e =
    let v = valid_facts l e in
    let there : is_some (from_page 0 (view l)) ≡ true =
    page_there l 0 ∙ lt-ltb 0 (length (view l)) (omega (arith, v.whole, v.some)) in
    ltb-true 0 (length (written_pages l)) (sym (pages_all l e 0) ∙ there)

-- and no more pages than components, since each page has one.
pub pages_few : (l : Layout) → valid l ≡ true → length (written_pages l) ≤ l.count
pages_few l e =
    let v = valid_facts l e in
    let last = length (written_pages l) - 1 in
    let there : ltb (start_of l last) (length (view l)) ≡ true =
    sym (page_there l last) ∙ pages_all l e last
    ∙ lt-ltb last (length (written_pages l)) (omega (arith, pages_some l e)) in
    let has : start_of l last < length (view l) = ltb-true (start_of l last) (length (view l)) there in
    omega (arith, number_le l v last has, v.whole)
