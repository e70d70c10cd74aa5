-- The pages of a layout that were paged by the writer's rule are the pages that the writer writes: it ends each page
-- where they do.
use Rattle.std.specs.Prelude.{ℕ, zero, suc, ◌+◌, ◌-◌, ◌≤◌, ◌<◌, ◌≡◌, refl, List, [], ◌∷◌, ◌++◌, true, ltb}
use Rattle.std.proofs.Math.Path.{sym, ap}
use Rattle.std.proofs.Common.{◌∙◌, arith, ltb-true, le-leb}
use Rattle.std.proofs.Math.ListN.{length}
use Rattle.std.proofs.Math.Seq.{take-append_seam, drop-append_seam}
use Rattle.std.proofs.lemmas.Bool.{lt-leb}
use Rattle.lists.specs.Bools.{both_true}
use Rattle.bytes_le.specs.Numbers.{AreBytes}
use Rattle.layout.specs.declared.Component.{Component}
use Rattle.layout.specs.declared.Layout.{Layout}
use Rattle.layout.specs.Records.{view}
use Rattle.page.specs.declared.Head.{Head}
use Rattle.page.specs.Form.{records_at, ends_at, counted, page_form}
use Rattle.page.specs.Content.{head_of, components_of}
use Rattle.page.specs.Bytes.{size_of, page_bytes}
use Rattle.page.specs.FormLaws.{length_components, some_components, page_by, page_short, page_ends}
use Rattle.page.specs.Same.{Few}
use Rattle.page.specs.BytesLaws.{total}
use Rattle.page.specs.ReadWritten.{components_at, read_whole, read_end, read_written}
use Rattle.paging.specs.Paging.{fitting, sizes_of, from_page, first_page, later_pages, is_some, head_for}
use Rattle.paging.specs.Paging.{page_from, written_page}
use Rattle.paging.specs.PagingLaws.{next_page}
use Rattle.round_trip.specs.Pages.{written_from, first_size, paged_by_rule, AllBytes, components_in, ArePages}
use Rattle.round_trip.specs.CompleteReading.{some_left}

-- The first of the components, if there is one, does not fit into `room` bytes after the `used` bytes.
abbrev DoesNotFit : ℕ → ℕ → List Component → Type 0
DoesNotFit room used [] = Unit {0}
DoesNotFit room used (c ∷ cs) = room < used + size_of c

-- Then it does not fit into what `size` of the used bytes leave of the room.
unfit_less : (room size used : ℕ) (ds : List Component) → DoesNotFit room (size + used) ds
    → DoesNotFit (room - size) used ds
unfit_less room size used [] h = tt
unfit_less room size used (d ∷ ds) h = omega arith

-- Of components that fit, and others after them, the first of which does not fit too, the writer puts just the former
-- into the page.
fitting_exact : (room : ℕ) (cs ds : List Component) → total cs ≤ room → DoesNotFit room (total cs) ds
    → fitting room (sizes_of (cs ++ ds)) ≡ length cs
fitting_exact room [] [] h k = refl
fitting_exact room [] (d ∷ ds) h k = rw (lt-leb (size_of d) room (omega arith))
fitting_exact room (c ∷ cs) ds h k =
    rw (le-leb (size_of c) room (omega arith))
    (ap suc (fitting_exact (room - size_of c) cs ds (omega arith) (unfit_less room (size_of c) (total cs) ds k)))

-- So these are the components of the writer's page, and the others those after it.
module _ (cs ds : List Component) (h : total cs ≤ 496) (k : DoesNotFit 496 (total cs) ds) where
  first_exact : first_page (cs ++ ds) ≡ cs
  first_exact = rw (fitting_exact 496 cs ds h k) (take-append_seam cs ds)

  later_exact : later_pages (cs ++ ds) ≡ ds
  later_exact = rw (fitting_exact 496 cs ds h k) (drop-append_seam cs ds)

-- If each component of two lists, one after the other, is to have at most 16 object records, so is each of either.
few_left : (cs ds : List Component) → Few (cs ++ ds) → Few cs
few_left [] ds f = tt
few_left (c ∷ cs) ds f = (f.0, few_left cs ds f.1)

few_right : (cs ds : List Component) → Few (cs ++ ds) → Few ds
few_right [] ds f = f
few_right (c ∷ cs) ds f = few_right cs ds f.1

-- A page takes 16 bytes and those of its components.
page_size : (p : List ℕ) → page_form p ≡ true → Few (components_of p) → length p ≡ 16 + total (components_of p)
page_size p e f = sym (page_ends p e) ∙ read_end p f

-- The first of the components from a place on takes as many bytes as those at the place say.
first_unfit : (n : ℕ) (s : List ℕ) (at room used : ℕ) (ds : List Component) → 1 ≤ n → Few (components_at n s at)
    → room < used + ends_at 0 (records_at s at) → DoesNotFit room used (components_at n s at ++ ds)
first_unfit zero s at room used ds h f k = absurd (omega arith)
first_unfit (suc n) s at room used ds h f k = omega (arith, read_whole s at f.0)

-- So does the first component of a page.
page_unfit : (room used : ℕ) (q : List ℕ) (ds : List Component) → page_form q ≡ true → Few (components_of q)
    → room < used + first_size q → DoesNotFit room used (components_of q ++ ds)
unfolding components_of
page_unfit room used q ds e f k =
    first_unfit (counted q) q 16 room used ds (some_components (length q) q (page_by q e)) f k

-- What was paged by the writer's rule was so from its second page on too.
rule_after : (p : List ℕ) (ps : List (List ℕ)) → paged_by_rule (p ∷ ps) ≡ true → paged_by_rule ps ≡ true
rule_after p [] e = refl
rule_after p (q ∷ qs) e = (both_true (ltb 512 (length p + first_size q)) (paged_by_rule (q ∷ qs)) e).1

-- The first component of its second page, if there is one, does not fit into the first page.
rule_unfit : (g k : ℕ) (p : List ℕ) (ps : List (List ℕ)) → ArePages g k (p ∷ ps) → Few (components_in (p ∷ ps))
    → paged_by_rule (p ∷ ps) ≡ true → DoesNotFit 496 (total (components_of p)) (components_in ps)
rule_unfit g k p [] a f e = tt
rule_unfit g k p (q ∷ qs) a f e =
    let later = components_in (q ∷ qs) in
    let size = page_size p a.0.form (few_left (components_of p) later f) in
    let few = few_left (components_of q) (components_in qs) (few_right (components_of p) later f) in
    let test = (both_true (ltb 512 (length p + first_size q)) (paged_by_rule (q ∷ qs)) e).0 in
    let past = ltb-true 512 (length p + first_size q) test in
    page_unfit 496 (total (components_of p)) q (components_in qs) a.1.0.form few (omega arith)

-- Of the pages of a layout from page k on, paged by the writer's rule, each of their components to have at most 16
-- object records:
module _ (g k : ℕ) (p : List ℕ) (ps : List (List ℕ)) (a : ArePages g k (p ∷ ps)) (f : Few (components_in (p ∷ ps)))
    (e : paged_by_rule (p ∷ ps) ≡ true) where
  -- the components of the first page fit into a page;
  first_fits : total (components_of p) ≤ 496
  first_fits =
      omega (arith, page_short p a.0.form, page_size p a.0.form (few_left (components_of p) (components_in ps) f))

  -- the writer puts just these into it,
  first_same : first_page (components_in (p ∷ ps)) ≡ components_of p
  first_same = first_exact (components_of p) (components_in ps) first_fits (rule_unfit g k p ps a f e)

  -- and those of the later pages after it;
  later_same : later_pages (components_in (p ∷ ps)) ≡ components_in ps
  later_same = later_exact (components_of p) (components_in ps) first_fits (rule_unfit g k p ps a f e)

  -- so its head is written as it was,
  head_same : head_for g k (components_in (p ∷ ps)) ≡ head_of p
  unfolding head_of
  head_same =
      let cs = components_in (p ∷ ps) in
      let more : is_some (later_pages cs) ≡ (head_of p).more =
      ap is_some later_same ∙ some_left g (suc k) ps a.1 ∙ sym a.0.follows in
      let count : length (first_page cs) ≡ (head_of p).count = ap length first_same ∙ length_components p in
      let number = sym a.0.number in
      let generation = sym a.0.generation in
      λ i. record { more = more i; number = number i; count = count i; generation = generation i }

  -- and so is the page.
  page_same : AreBytes p → page_from g k (components_in (p ∷ ps)) ≡ p
  page_same b =
      ap (λ (cs : List Component). page_bytes (head_for g k (components_in (p ∷ ps))) cs) first_same
      ∙ ap (λ (h : Head). page_bytes h (components_of p)) head_same
      ∙ read_written p b a.0.form (few_left (components_of p) (components_in ps) f)

-- Pages from page k on, paged by the writer's rule, are those that are written of a layout whose components from page k
-- on are theirs, if at least as many pages are asked for.
pub pages_same : (n k : ℕ) (l : Layout) (ps : List (List ℕ)) → AllBytes ps → ArePages l.generation k ps
    → Few (components_in ps) → paged_by_rule ps ≡ true → from_page k (view l) ≡ components_in ps → length ps ≤ n
    → written_from n k l ≡ ps
unfolding written_page
pages_same zero k l [] b a f e x h = refl
pages_same zero k l (p ∷ ps) b a f e x h = absurd (omega arith)
pages_same (suc n) k l [] b a f e x h = rw x
pages_same (suc n) k l (p ∷ ps) b a f e x h =
    let g = l.generation in
    let some : is_some (from_page k (view l)) ≡ true = ap is_some x ∙ some_left g k (p ∷ ps) a in
    let page : written_page l k ≡ p = ap (page_from g k) x ∙ page_same g k p ps a f e b.0 in
    let next : from_page (suc k) (view l) ≡ components_in ps =
    next_page k (view l) ∙ ap later_pages x ∙ later_same g k p ps a f e in
    let few = few_right (components_of p) (components_in ps) f in
    let rest = pages_same n (suc k) l ps b.1 a.1 few (rule_after p ps e) next (omega arith) in
    rw (some, page, rest)
