-- "What the writer writes reads back to the same layout": all pages of a valid layout, taken one after another from a
-- new collector, end complete at that layout. The theorem is `written_read_back`, near the end. The pages that are
-- written are those of one layout in their order, with its components, so the reader takes them as it takes any paging.
use Rattle.std.specs.Prelude.{ℕ, zero, suc, ◌+◌, ◌≤◌, ◌<◌, ◌≡◌, refl, List, [], ◌∷◌, ◌++◌, map, true, false, length, take, drop, Ok}
use Rattle.std.proofs.Common.{sym, ap, ◌∙◌, arith, length-drop, ltb-true, le-ltb, lt-ltb}
use Rattle.std.proofs.lemmas.List.{map-append, length-map}
use Rattle.lists.specs.Bools.{bool_cases}
use Rattle.layout.specs.declared.Component.{Component}
use Rattle.layout.specs.declared.Layout.{Layout}
use Rattle.layout.specs.Records.{view}
use Rattle.layout.specs.Rules.{valid}
use Rattle.layout.specs.Facts.{Keeps, Valid}
use Rattle.layout.specs.FactLaws.{valid_facts}
use Rattle.page.specs.declared.Head.{Head}
use Rattle.page.specs.Bytes.{size_of}
use Rattle.page.specs.Form.{page_form}
use Rattle.page.specs.Content.{head_of, components_of}
use Rattle.page.specs.Same.{trimmed, AllFit, FitsHead}
use Rattle.page.specs.WrittenRead.{written_read}
use Rattle.collector.specs.declared.Answer.TheVariants.{Complete}
use Rattle.collector.specs.Collector.{new_collector}
use Rattle.collector.specs.Giving.{layout_out}
use Rattle.paging.specs.Paging.{in_page, sizes_of, from_page, first_page, later_pages, is_some, head_for, written_page}
use Rattle.paging.specs.PagingLaws.{in_page_le, next_page, first_later}
use Rattle.round_trip.specs.Pages.{read_pages, written_from, written_pages, blanked, InMemory}
use Rattle.round_trip.specs.Pages.{components_in, some_pages, IsPage, ArePages}
use Rattle.round_trip.specs.InMemory.{layout_fits}
use Rattle.round_trip.specs.Blanking.{keeps_same, view_blanked}
use Rattle.round_trip.specs.PageLaws.{start_of, length_first, first_room, page_there, page_some}
use Rattle.round_trip.specs.PageLaws.{start_rises, number_le, written_cons, written_nil}
use Rattle.round_trip.specs.CompleteReading.{some_left, reading_out}
use Rattle.round_trip.specs.AnyPaging.{any_paging}

-- Of components that a page can hold, the first ones and the last ones are such.
fit_take : (n : ℕ) (cs : List Component) → AllFit cs → AllFit (take n cs)
fit_take zero cs f = tt
fit_take (suc n) [] f = tt
fit_take (suc n) (c ∷ cs) f = (f.0, fit_take n cs f.1)

fit_rest : (n : ℕ) (cs : List Component) → AllFit cs → AllFit (drop n cs)
fit_rest zero cs f = f
fit_rest (suc n) [] f = tt
fit_rest (suc n) (c ∷ cs) f = fit_rest n cs f.1

-- Blanking the unused places of components leaves none if there are none, and some if there are some.
none_trimmed : (cs : List Component) → is_some cs ≡ false → map trimmed cs ≡ []
none_trimmed [] e = refl
none_trimmed (c ∷ cs) e = cc

some_trimmed : (cs : List Component) → is_some (map trimmed cs) ≡ is_some cs
some_trimmed [] = refl
some_trimmed (c ∷ cs) = refl

-- If a valid layout has a page k,
module _ (l : Layout) (v : Valid l) (m : InMemory l) (k : ℕ) (has : start_of l k < length (view l)) where
  -- its head is one that a page can hold;
  head_fits : FitsHead (head_for l.generation k (from_page k (view l))) (length (first_page (from_page k (view l))))
  head_fits =
      let rest = from_page k (view l) in
      let page : in_page (sizes_of rest) ≤ length rest =
      omega (arith, in_page_le (sizes_of rest), length-map rest size_of) in
      let left : length rest ≤ 16 = omega (arith, length-drop (start_of l k) (view l), v.whole, v.few) in
      record {
        number = omega (arith, number_le l v k has, v.whole, v.few);
        generation = m.generation;
        counts = refl;
        some = page_some l v k has;
        few = omega (arith, length_first rest);
      }

  -- and the page has its form, and its head and its components are read back.
  page_back : AllFit (view l)
      → (page_form (written_page l k) ≡ true)
      × (head_of (written_page l k) ≡ head_for l.generation k (from_page k (view l)))
      × (components_of (written_page l k) ≡ map trimmed (first_page (from_page k (view l))))
  unfolding written_page
  page_back fits =
      let rest = from_page k (view l) in
      written_read (head_for l.generation k rest) (first_page rest) head_fits
      (fit_take (in_page (sizes_of rest)) rest (fit_rest (start_of l k) (view l) fits)) (first_room rest)

-- The pages ps are those of a layout from page k on, in their order, and their components are those of the layout from
-- page k on, the unused places of their object arrays blank.
record Written (l : Layout) (k : ℕ) (ps : List (List ℕ)) : Type 0 where
  pages : ArePages l.generation k ps
  components : components_in ps ≡ map trimmed (from_page k (view l))

-- So it is of the pages that are written from page k on if there is no page k: none are written;
none_written : (l : Layout) (n k : ℕ) → is_some (from_page k (view l)) ≡ false → Written l k (written_from n k l)
none_written l n k e =
    rw (written_nil n k l e) (record { pages = tt; components = sym (none_trimmed (from_page k (view l)) e) })

-- and so it is from each page k on, if their limit n is not below the number of components that are left.
written_from_lem : (l : Layout) → Valid l → InMemory l → AllFit (view l) → (n k : ℕ)
    → length (view l) ≤ start_of l k + n → Written l k (written_from n k l)
written_from_lem l v m fits zero k most =
    none_written l zero k (page_there l k ∙ le-ltb (start_of l k) (length (view l)) (omega arith))
written_from_lem l v m fits (suc n) k most =
    bool_cases (is_some (from_page k (view l)))
    (λ e. let g = l.generation in
    let rest = from_page k (view l) in
    let later = written_from n (suc k) l in
    let has = ltb-true (start_of l k) (length (view l)) (sym (page_there l k) ∙ e) in
    let page = page_back l v m k has fits in
    let r = written_from_lem l v m fits n (suc k) (omega (arith, start_rises l v k has)) in
    let component_end : components_in later ≡ map trimmed (later_pages rest) =
    r.components ∙ ap (map trimmed) (next_page k (view l)) in
    let more : is_some (later_pages rest) ≡ some_pages later =
    sym (some_trimmed (later_pages rest)) ∙ ap is_some (sym component_end) ∙ some_left g (suc k) later r.pages in
    let first : IsPage g k (some_pages later) (written_page l k) =
    record {
      form = page.0;
      number = ap (λ (h : Head). h.number) page.1;
      generation = ap (λ (h : Head). h.generation) page.1;
      follows = ap (λ (h : Head). h.more) page.1 ∙ more;
    } in
    let all : components_of (written_page l k) ++ components_in later ≡ map trimmed rest =
    rw (page.2, component_end, ← map-append trimmed (first_page rest) (later_pages rest), first_later rest) in
    rw (written_cons n k l e) (record { pages = (first, r.pages); components = all }))
    (λ e. none_written l (suc n) k e)

-- "What the writer writes reads back to the same layout": for each valid layout, the pages that the writer writes,
-- taken one after another from a new collector, are all taken, and the last answers "complete". The collector then
-- holds that layout: its generation and its components, each with its object records. (`blanked l` is l with the
-- places of its arrays that no count reaches blank: they mean nothing and are not written. `InMemory l` says that the
-- numbers fit their types, as those of every layout in memory do.)
pub written_read_back : (l : Layout) → valid l ≡ true → InMemory l
    → read_pages new_collector (written_pages l)
    ≡ record {
      answer = Ok Complete;
      collector = record { pages = length (written_pages l); layout = blanked l };
    }
unfolding written_pages
written_read_back l e m =
    let v = valid_facts l e in
    let g = l.generation in
    let ps = written_pages l in
    let w : Written l 0 ps = written_from_lem l v m (layout_fits l e m) 16 0 (omega (arith, v.whole, v.few)) in
    let there : is_some (from_page 0 (view l)) ≡ true =
    page_there l 0 ∙ lt-ltb 0 (length (view l)) (omega (arith, v.whole, v.some)) in
    let some : some_pages ps ≡ true =
    sym (some_left g 0 ps w.pages) ∙ ap is_some w.components ∙ some_trimmed (view l) ∙ there in
    let few : length (components_in ps) ≤ 16 =
    omega (arith, ap length w.components, length-map (view l) trimmed, v.whole, v.few) in
    let keeps : Keeps false (components_in ps) = rw w.components (keeps_same false (view l) v.keeps) in
    any_paging g ps w.pages some few keeps ∙ rw w.components

-- "Only a complete collector gives a layout": that collector is complete, and gives that layout.
pub written_given_back : (l : Layout) → valid l ≡ true → InMemory l
    → layout_out (read_pages new_collector (written_pages l)).collector ≡ record { refusal = 0; layout = blanked l }
written_given_back l e m =
    rw (written_read_back l e m)
    (reading_out (written_pages l) _ (written_read_back l e m) ∙ rw (view_blanked l e))
