-- What a complete reading tells: pages are taken one after another by a new collector, and the last of them completes
-- it. The pages are then those of one layout, in their order, and the layout that the collector gives has their
-- components.
use Rattle.std.specs.Prelude.{ℕ, suc, ◌≤◌, ◌≡◌, refl, List, [], ◌∷◌, ◌++◌, Bool, true, false, not, cond, ◌||◌, length, Result, Ok}
use Rattle.std.proofs.Common.{sym, ap, subst, ◌∙◌, append_assoc, append-nil, arith, add-one, length-append}
use Rattle.std.proofs.Math.Dec.{eqb}
use Rattle.std.proofs.Math.Seq.{length-sets}
use borrow.Author.Tests.{eqb-true, eqb-false, ne_eqb}
use Rattle.lists.specs.Bools.{bool_cases, both_true}
use Rattle.layout.specs.declared.Component.{Component}
use Rattle.layout.specs.Records.{view, packed}
use Rattle.layout.specs.RecordLaws.{view_pack}
use Rattle.layout.specs.Rules.{valid}
use Rattle.layout.specs.Facts.{Keeps}
use Rattle.layout.specs.FactLaws.{keeps_facts, facts_valid}
use Rattle.page.specs.declared.Head.{Head}
use Rattle.page.specs.Form.{page_form}
use Rattle.page.specs.Content.{head_of, components_of}
use Rattle.page.specs.FormLaws.{length_components, some_components, page_by}
use Rattle.page.specs.Same.{Few, fields_few}
use Rattle.collector.specs.declared.Collector.{Collector}
use Rattle.collector.specs.Taking.{Taken}
use Rattle.collector.specs.declared.Answer.{Answer}
use Rattle.collector.specs.declared.Answer.TheVariants.{More, Complete}
use Rattle.collector.specs.Collector.{new_collector, gathered, collector_ok}
use Rattle.collector.specs.Taking.{number_of, is_next, added, content_refusal, open_refusal, page_refusal, settled, page_in}
use Rattle.collector.specs.TakingLaws.{settled_number, refused_1, refused_2, refused_3, refused_content, refused_open}
use Rattle.collector.specs.Giving.{layout_out}
use Rattle.collector.specs.Sound.{Sound, facts_sound, content_taken, view_joined, sound_added}
use Rattle.collector.proofs.RunLaws.{new_held}
use Rattle.paging.specs.Paging.{is_some}
use Rattle.round_trip.specs.Pages.{read_pages, completed, components_in, some_pages, ArePages}

-- What a reading of the pages ps tells that starts at the collector c₀ and ends at the complete collector c.
pub record WholeReading (c₀ c : Collector) (ps : List (List ℕ)) : Type 0 where
  -- The pages are those of one layout from the next page on, of the generation that the collector has at the end.
  pub pages : ArePages c.layout.generation c₀.pages ps
  -- Their components are after those gathered before.
  pub components : gathered c ≡ gathered c₀ ++ components_in ps
  -- There are pages exactly if the collector was not complete.
  pub wanted : some_pages ps ≡ not c₀.layout.complete
  -- Once page 0 is taken, the generation stays.
  pub same : 1 ≤ c₀.pages → c.layout.generation ≡ c₀.layout.generation
  -- At the end the collector is complete, and refusal 1 does not apply to it.
  pub complete : c.layout.complete ≡ true
  pub sound : Sound c

-- What a page tells that is taken: the collector was not complete, the bytes are a page, and 4 to 8 do not apply.
record PageTaken (c : Collector) (p : List ℕ) : Type 0 where
  unfinished : c.layout.complete ≡ false
  form : page_form p ≡ true
  content : content_refusal c (head_of p) (components_of p) ≡ 0

page_taken : (c : Collector) (p : List ℕ) → page_refusal c p ≡ 0 → PageTaken c p
page_taken c p e =
    bool_cases (collector_ok c)
    (λ x. let o : open_refusal c p ≡ 0 = sym (refused_open c p x) ∙ e in
    bool_cases c.layout.complete
    (λ y. let z : 2 ≡ 0 = sym (refused_2 c p y) ∙ o in absurd (omega arith))
    (λ y. bool_cases (page_form p)
    (λ f. record { unfinished = y; form = f; content = sym (refused_content c p y f) ∙ o })
    (λ f. let z : 3 ≡ 0 = sym (refused_3 c p y f) ∙ o in absurd (omega arith))))
    (λ x. let z : 1 ≡ 0 = sym (refused_1 c p x) ∙ e in absurd (omega arith))

-- A page that is the next has the next number, and after page 0 the generation of page 0.
module _ (pages g : ℕ) (h : Head) (e : is_next pages g h ≡ true) where
  next_number : h.number ≡ pages
  unfolding is_next
  next_number =
      eqb-true h.number pages (both_true (eqb h.number pages) (eqb pages 0 || eqb h.generation g) e).0

  next_generation : 1 ≤ pages → h.generation ≡ g
  unfolding is_next
  next_generation k =
      let p = (both_true (eqb h.number pages) (eqb pages 0 || eqb h.generation g) e).1 in
      eqb-true h.generation g (rw (ne_eqb pages 0 (λ z. omega arith)) at p)

-- Of a reading that ends complete, the first page was taken, and the collector with that page read the others.
first_taken : (c₀ c : Collector) (p : List ℕ) (ps : List (List ℕ)) → read_pages c₀ (p ∷ ps) ≡ completed c
    → (page_refusal c₀ p ≡ 0) × (read_pages (added c₀ (head_of p) (components_of p)) ps ≡ completed c)
unfolding settled number_of
first_taken c₀ c p ps e =
    let n = page_refusal c₀ p in
    let k : number_of (page_in c₀ p).answer ≡ n = settled_number n c₀ (head_of p) (components_of p) in
    let f : cond (eqb n 0) (read_pages (page_in c₀ p).collector ps) (page_in c₀ p) ≡ completed c = rw k at e in
    bool_cases (eqb n 0)
    (λ z. let t : n ≡ 0 = eqb-true n 0 z in (t, rw (z, t) at f))
    (λ z. let r : page_in c₀ p ≡ completed c = rw z at f in
    absurd (eqb-false n 0 z (sym k ∙ ap (λ (t : Taken). number_of t.answer) r)))

-- The answer is "complete" only if the collector is.
pub answered_complete : (b : Bool) → ◌≡◌ {A = Result Answer ℕ} (Ok Complete) (Ok (cond b Complete More)) → b ≡ true
answered_complete true e = refl
answered_complete false e = cc

-- A page has at least one component.
pub some_in_page : (p : List ℕ) → page_form p ≡ true → 1 ≤ length (components_of p)
some_in_page p e = omega (arith, length_components p, some_components (length p) p (page_by p e))

-- What a reading that ends complete tells, from any collector on that keeps the rules.
pub reading : (c₀ c : Collector) (ps : List (List ℕ)) → length c₀.layout.components ≡ 16 → Sound c₀
    → read_pages c₀ ps ≡ completed c → WholeReading c₀ c ps
reading c₀ c [] len s e =
    let x : c₀ ≡ c = ap (λ (t : Taken). t.collector) e in
    let y : c₀.layout.complete ≡ true = answered_complete c₀.layout.complete (sym (ap (λ (t : Taken). t.answer) e)) in
    let r : WholeReading c₀ c₀ [] =
    record {
      pages = tt;
      components = sym (append-nil (gathered c₀));
      wanted = rw y;
      same = λ k. refl;
      complete = y;
      sound = s;
    } in
    subst (λ (d : Collector). WholeReading c₀ d []) x r
reading c₀ c (p ∷ ps) len s e =
    let h = head_of p in
    let cs = components_of p in
    let f = first_taken c₀ c p ps e in
    let t = page_taken c₀ p f.0 in
    let w = content_taken c₀ h cs t.content in
    let room : length (added c₀ h cs).layout.components ≡ 16 =
    length-sets c₀.layout.components c₀.layout.count cs ∙ len in
    let sound = sound_added c₀ h cs len (some_in_page p t.form) s t.content in
    let r = reading (added c₀ h cs) c ps room sound f.1 in
    let g : c.layout.generation ≡ h.generation = r.same (omega arith) in
    let v : gathered (added c₀ h cs) ≡ gathered c₀ ++ cs =
    view_joined h c₀.layout cs (omega (arith, w.1, len)) in
    let m : h.more ≡ some_pages ps =
    bool_cases h.more (λ y. y ∙ sym (r.wanted ∙ rw y)) (λ y. y ∙ sym (r.wanted ∙ rw y)) in
    record {
      pages = (
        record {
          form = t.form;
          number = next_number c₀.pages c₀.layout.generation h w.0;
          generation = sym g;
          follows = m;
        },
        rw add-one at r.pages,
      );
      components = r.components ∙ rw (v, append_assoc);
      wanted = rw t.unfinished;
      same = λ k. g ∙ next_generation c₀.pages c₀.layout.generation h w.0 k;
      complete = r.complete;
      sound = r.sound;
    }

-- Components that begin with those of a page are some.
some_append : (cs ds : List Component) → 1 ≤ length cs → is_some (cs ++ ds) ≡ true
some_append [] ds h = absurd (omega arith)
some_append (c ∷ cs) ds h = refl

-- Pages have components exactly if there are pages, since each page has a component.
pub some_left : (g k : ℕ) (ps : List (List ℕ)) → ArePages g k ps → is_some (components_in ps) ≡ some_pages ps
some_left g k [] a = refl
some_left g k (p ∷ ps) a = some_append (components_of p) (components_in ps) (some_in_page p a.0.form)

-- So there are no more pages than components.
pub pages_at_most : (g k : ℕ) (ps : List (List ℕ)) → ArePages g k ps → length ps ≤ length (components_in ps)
pages_at_most g k [] a = omega arith
pages_at_most g k (p ∷ ps) a =
    let one = some_in_page p a.0.form in
    omega (arith, pages_at_most g (suc k) ps a.1, length-append (components_of p) (components_in ps))

-- If there are pages, there is at least one.
pages_some : (ps : List (List ℕ)) → some_pages ps ≡ true → 1 ≤ length ps
pages_some [] e = let z : ◌≡◌ {A = ℕ} 0 1 = cc in absurd (omega arith)
pages_some (p ∷ ps) e = omega arith

-- A complete reading: the pages ps are taken one after another by a new collector, and the last of them completes it; c
-- is the collector then.
module _ (ps : List (List ℕ)) (c : Collector)
    (e : read_pages new_collector ps ≡ record { answer = Ok Complete; collector = c }) where
  -- What it tells.
  whole_reading : WholeReading new_collector c ps
  whole_reading = reading new_collector c ps new_held.places new_held.sound e

  -- The collector gives the layout of the generation and the components that were gathered.
  pub reading_out : layout_out c ≡ record { refusal = 0; layout = packed c.layout.generation (gathered c) }
  unfolding layout_out
  reading_out = rw (facts_sound c whole_reading.sound, whole_reading.complete)

  -- These are at most 16 components.
  gathered_few : length (gathered c) ≤ 16
  gathered_few = omega (arith, whole_reading.sound.whole, whole_reading.sound.few)

  -- They keep the component rules, with no pages outstanding.
  gathered_keeps : Keeps false (gathered c)
  gathered_keeps = keeps_facts false (gathered c) (rw whole_reading.complete at whole_reading.sound.kept)

  -- There are no more pages than these.
  pages_gathered : length ps ≤ length (gathered c)
  pages_gathered =
      let n = ap length whole_reading.components in
      omega (arith, pages_at_most c.layout.generation 0 ps whole_reading.pages)

  -- "Only a complete collector gives a layout": this one does, so no refusal applies,
  pub reading_given : (layout_out c).refusal ≡ 0
  reading_given = rw reading_out

  -- and the layout is valid.
  pub reading_valid : valid (layout_out c).layout ≡ true
  reading_valid =
      let one : 1 ≤ length ps = pages_some ps whole_reading.wanted in
      let v : view (packed c.layout.generation (gathered c)) ≡ gathered c =
      view_pack c.layout.generation (gathered c) gathered_few in
      rw reading_out
      (facts_valid (packed c.layout.generation (gathered c))
      (record {
        complete = refl;
        some = omega (arith, pages_gathered);
        few = gathered_few;
        whole = ap length v;
        keeps = rw v gathered_keeps;
      }))

  -- The pages are all pages of one layout, in their order, and have the generation of the layout that is given.
  pub reading_pages : ArePages (layout_out c).layout.generation 0 ps
  reading_pages = rw reading_out whole_reading.pages

  -- The components of the layout that is given are those of the pages, one page after the other.
  pub reading_view : view (layout_out c).layout ≡ components_in ps
  reading_view =
      rw reading_out (view_pack c.layout.generation (gathered c) gathered_few ∙ whole_reading.components)

  -- Each of them is to have at most 16 object records.
  pub reading_few : Few (components_in ps)
  reading_few = rw whole_reading.components at (fields_few (gathered c) gathered_keeps.fields)

  -- There are at most 16 pages.
  pub reading_short : length ps ≤ 16
  reading_short = omega (arith, pages_gathered, gathered_few)
