-- Laws of paging: a page has at most 512 bytes and, where components are left, at least one of them; each page goes on
-- where the one before it ends.
use Rattle.std.specs.Prelude.{ℕ, zero, suc, ◌+◌, ◌-◌, ◌≤◌, ◌<◌, ◌≡◌, refl, List, [], ◌∷◌, ◌++◌, true, leb, ltb, length, sum, take, drop}
use Rattle.std.proofs.Common.{sym, ap, ◌∙◌, arith, add_assoc, zero-add, length-take, length-drop, take-append-drop, drop-drop, drop_of_length-le, leb-true, ltb-true, le-leb, lt-ltb, le-ltb}
use Rattle.std.proofs.Math.Dec.{leb-suc-suc}
use Rattle.std.proofs.lemmas.List.{length-map}
use Rattle.std.proofs.lemmas.List.Edits.{sets-eq}
use Rattle.std.proofs.lemmas.List.Sums.{sum_by-cons}
use Rattle.std.proofs.Math.Seq.{drop-append_seam}
use Rattle.lists.specs.Bools.{bool_cases}
use Rattle.lists.specs.Slices.{take_map, take_sets}
use Rattle.layout.specs.declared.Component.{Component}
use Rattle.layout.specs.declared.Layout.{Layout}
use Rattle.layout.specs.Records.{record_count, view}
use Rattle.layout.specs.Facts.{Valid}
use Rattle.page.specs.Bytes.{size_of}
use Rattle.page.specs.BytesLaws.{total, length_page}
use Rattle.page.specs.Same.{Few, fields_few}
use Rattle.paging.specs.Paging.{fitting, in_page, page_start, sizes_of, from_page, first_page, later_pages}
use Rattle.paging.specs.Paging.{is_some, head_for, written_page, out_answer, out_number, out_buffer}

-- Each size is at most 496: a page has room for the component after its head.
abbrev pub Fit : List ℕ → Type 0
Fit [] = Unit {0}
Fit (size ∷ sizes) = (size ≤ 496) × Fit sizes

-- A page has room for each component of the rest of a list, too.
pub fit_drop : (n : ℕ) (sizes : List ℕ) → Fit sizes → Fit (drop n sizes)
fit_drop zero sizes f = f
fit_drop (suc n) [] f = f
fit_drop (suc n) (size ∷ sizes) f = fit_drop n sizes f.1

-- No more components go into a page than there are.
pub fitting_le : (room : ℕ) (sizes : List ℕ) → fitting room sizes ≤ length sizes
fitting_le room [] = omega arith
fitting_le room (size ∷ sizes) =
    bool_cases (leb size room)
    (λ e. rw e (omega (arith, fitting_le (room - size) sizes)))
    (λ e. rw e (omega arith))

-- No more components go into a page that has its head only than there are.
pub in_page_le : (sizes : List ℕ) → in_page sizes ≤ length sizes
in_page_le sizes = fitting_le 496 sizes

-- If components are left, each of which a page has room for, at least one goes into the next page.
pub in_page_some : (sizes : List ℕ) → Fit sizes → 1 ≤ length sizes → 1 ≤ in_page sizes
in_page_some [] f h = absurd (omega arith)
in_page_some (size ∷ sizes) f h = rw (le-leb size 496 f.0) (omega arith)

-- The sum of sizes, by the first of them.
pub sum_cons : (size : ℕ) (sizes : List ℕ) → sum (size ∷ sizes) ≡ size + sum sizes
sum_cons size sizes = sum_by-cons (λ (n : ℕ). n) size sizes

-- What goes into a page takes no more than the page's room.
pub fitting_fits : (room : ℕ) (sizes : List ℕ) → sum (take (fitting room sizes) sizes) ≤ room
fitting_fits room [] = omega arith
fitting_fits room (size ∷ sizes) =
    bool_cases (leb size room)
    (λ e. rw (e, sum_cons) (omega (arith, fitting_fits (room - size) sizes, leb-true size room e)))
    (λ e. rw e (omega arith))

-- A page with its head has at most 512 bytes.
pub page_fits : (sizes : List ℕ) → 16 + sum (take (in_page sizes) sizes) ≤ 512
page_fits sizes = omega (arith, fitting_fits 496 sizes)

-- No more components are before a page than there are.
pub page_start_le : (k : ℕ) (sizes : List ℕ) → page_start k sizes ≤ length sizes
page_start_le zero sizes = omega arith
page_start_le (suc k) sizes =
    omega (arith, in_page_le sizes, page_start_le k (drop (in_page sizes) sizes), length-drop (in_page sizes) sizes)

-- Before page k + 1 are the components before page k and those of page k.
pub page_start_next : (k : ℕ) (sizes : List ℕ)
    → page_start (suc k) sizes ≡ page_start k sizes + in_page (drop (page_start k sizes) sizes)
page_start_next zero sizes = omega arith
page_start_next (suc k) sizes =
    let rest = drop (in_page sizes) sizes in
    ap (λ (n : ℕ). in_page sizes + n) (page_start_next k rest) ∙ rw (drop-drop, ← add_assoc)

-- At least as many components are before a later page.
pub page_start_mono : (j k : ℕ) (sizes : List ℕ) → j ≤ k → page_start j sizes ≤ page_start k sizes
page_start_mono zero k sizes h = omega arith
page_start_mono (suc j) zero sizes h = absurd (omega arith)
page_start_mono (suc j) (suc k) sizes h = omega (arith, page_start_mono j k (drop (in_page sizes) sizes) (omega arith))

-- If page k has a component, at least k are before it, since each page before it has at least one.
pub page_number_le : (k : ℕ) (sizes : List ℕ) → Fit sizes → page_start k sizes < length sizes → k ≤ page_start k sizes
page_number_le zero sizes f h = omega arith
page_number_le (suc k) sizes f h =
    let n = in_page sizes in
    let some : 1 ≤ n = in_page_some sizes f (omega arith) in
    let left : length (drop n sizes) ≡ length sizes - n = length-drop n sizes in
    omega (arith, page_number_le k (drop n sizes) (fit_drop n sizes f) (omega arith))

-- The sizes of the components after the first n are the sizes after the first n.
pub sizes_drop : (n : ℕ) (cs : List Component) → sizes_of (drop n cs) ≡ drop n (sizes_of cs)
sizes_drop zero cs = refl
sizes_drop (suc n) [] = refl
sizes_drop (suc n) (c ∷ cs) = sizes_drop n cs

-- The components from page k + 1 on are those from page k on, without those of page k.
pub next_page : (k : ℕ) (cs : List Component) → from_page (suc k) cs ≡ later_pages (from_page k cs)
next_page k cs = rw (page_start_next k (sizes_of cs), ← drop-drop, sizes_drop)

-- If none is left from page j on, none is left from a later page on.
pub none_later : (j k : ℕ) (cs : List Component) → j ≤ k → length (from_page j cs) ≡ 0 → from_page k cs ≡ from_page j cs
none_later j k cs h e =
    let before = page_start j (sizes_of cs) in
    let mono = page_start_mono j k (sizes_of cs) h in
    let n : length cs ≤ before = omega (arith, length-drop before cs) in
    drop_of_length-le cs (omega arith) ∙ sym (drop_of_length-le cs n)

-- The components of the first page and those after it are all.
pub first_later : (cs : List Component) → first_page cs ++ later_pages cs ≡ cs
first_later cs = take-append-drop (in_page (sizes_of cs)) cs

-- The bytes of components are the sum of their sizes.
pub total_sum : (cs : List Component) → total cs ≡ sum (sizes_of cs)
total_sum [] = refl
total_sum (c ∷ cs) = rw (total_sum cs, sum_cons)

-- A page with its head takes 16 bytes and those of its components.
pub length_written : (l : Layout) (k : ℕ) → length (written_page l k) ≡ 16 + total (first_page (from_page k (view l)))
unfolding written_page
length_written l k = length_page (head_for l.generation k (from_page k (view l))) (first_page (from_page k (view l)))

-- "A page has 16 to 512 bytes": no page that is written has more.
pub written_le : (l : Layout) (k : ℕ) → length (written_page l k) ≤ 512
written_le l k =
    let cs = from_page k (view l) in
    rw (length_written, total_sum, take_map size_of (in_page (sizes_of cs)) cs) (page_fits (sizes_of cs))

-- A page has room for each component that is to have at most 16 object records: such a component takes at most 296
-- bytes.
pub few_fit : (cs : List Component) → Few cs → Fit (sizes_of cs)
few_fit [] f = tt
few_fit (c ∷ cs) f = (omega (arith, length-take (record_count c) c.objects), few_fit cs f.1)

-- A page has room for each component of a valid layout.
pub valid_fit : (l : Layout) → Valid l → Fit (sizes_of (view l))
valid_fit l v = few_fit (view l) (fields_few (view l) v.keeps.fields)

-- Components are left after the first n exactly if there are more than n.
pub is_some_drop : (n : ℕ) (cs : List Component) → is_some (drop n cs) ≡ ltb n (length cs)
is_some_drop zero [] = sym (le-ltb 0 0 (omega arith))
is_some_drop zero (c ∷ cs) = sym (lt-ltb 0 (length (c ∷ cs)) (omega arith))
is_some_drop (suc n) [] = sym (le-ltb (suc n) 0 (omega arith))
is_some_drop (suc n) (c ∷ cs) = is_some_drop n cs ∙ sym (leb-suc-suc (suc n) (length cs))

-- A page of a valid layout has a number below 16.
pub number_few : (l : Layout) (k : ℕ) → Valid l → is_some (from_page k (view l)) ≡ true → k < 16
number_few l k v e =
    let sizes = sizes_of (view l) in
    let n : length sizes ≡ l.count = length-map (view l) size_of ∙ v.whole in
    let h : page_start k sizes < length (view l) =
    ltb-true (page_start k sizes) (length (view l)) (rw is_some_drop at e) in
    omega (arith, page_number_le k sizes (valid_fit l v) (omega (arith, v.whole)), v.whole, v.few)

-- The answer means the number of the refusal, or 0.
pub out_number_lem : (n : ℕ) (page : List ℕ) → out_number (out_answer n page) ≡ n
unfolding out_number out_answer
out_number_lem zero page = refl
out_number_lem (suc n) page = refl

-- If a page was written, the first bytes of the buffer are the page,
pub written_first : (page buffer : List ℕ) → length page ≤ length buffer
    → take (length page) (out_buffer 0 page buffer) ≡ page
unfolding out_buffer
written_first page buffer h = take_sets buffer page h

-- and "buffer bytes past it stay".
pub written_past : (page buffer : List ℕ) → length page ≤ length buffer
    → drop (length page) (out_buffer 0 page buffer) ≡ drop (length page) buffer
unfolding out_buffer
written_past page buffer h =
    ap (drop (length page)) (sets-eq page buffer 0 (omega arith)) ∙ rw zero-add (drop-append_seam page (drop (length page) buffer))
