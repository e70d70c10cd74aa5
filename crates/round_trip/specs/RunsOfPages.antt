-- Pages in one run of bytes: back to back, as the host gives them, or each after its length, as the listing reads them.
-- A run is read as its pages are taken one after another: to the same layout if the last of them completes the
-- collector, and to the numbers that the paper states if pages are outstanding or bytes are after the last page.
-- The theorems are `host_reads` and `listed_reads`, near the end, and those after them. (`read_run` and the two ways to
-- cut the next page from the bytes, `host_cut` and `listed_cut`, are defined in the collector's `Runs`.)
use Rattle.std.specs.Prelude.{ℕ, ◌+◌, ◌<◌, ◌≡◌, Bool, true, false, cond, eqb, length, drop, Result, Ok}
use Rattle.std.proofs.Math.Path.{refl, ap}
use Rattle.std.proofs.Common.{sym, subst, ◌∙◌, arith, length-append, drop_at, eqb-true}
use mathlib.Core.List.{List, [], ◌∷◌, ◌++◌, append_assoc, append-nil}
use Rattle.std.proofs.Math.Seq.{take-append_seam}
use Rattle.std.proofs.lemmas.Bool.{eqb-false}
use Rattle.lists.specs.Bools.{bool_cases}
use Rattle.bytes_le.specs.Numbers.{u16_at, u16_bytes}
use Rattle.bytes_le.specs.NumberLaws.{u16_length, u16_back}
use Rattle.layout.specs.declared.Layout.{Layout}
use Rattle.layout.specs.Rules.{valid}
use Rattle.page.specs.Form.{page_form}
use Rattle.page.specs.Content.{head_of, components_of}
use Rattle.page.specs.FormLaws.{page_short}
use Rattle.page.specs.FirstPageLaws.{whole_cut, whole_rest, whole_form}
use Rattle.collector.specs.declared.Collector.{Collector}
use Rattle.collector.specs.Taking.{Taken}
use Rattle.collector.specs.declared.Answer.{Answer}
use Rattle.collector.specs.declared.Answer.TheVariants.{More, Complete}
use Rattle.collector.specs.Giving.{LayoutOut}
use Rattle.collector.specs.Collector.{new_collector}
use Rattle.collector.specs.Taking.{number_of, open_refusal, open_in}
use Rattle.collector.specs.TakingLaws.{settled_number}
use Rattle.collector.specs.Giving.{layout_out}
use Rattle.collector.specs.Sound.{facts_sound}
use Rattle.collector.specs.Runs.{Next, ended, next, refused_at, closed, read_run, listed_cut, host_cut}
use Rattle.collector.proofs.RunLaws.{Held, read_from, open_taken, page_open, taken_held, taken_pages, read_closed}
use Rattle.collector.proofs.RunLaws.{read_ended, read_taken, closed_more, new_held, read_start}
use Rattle.collector.proofs.CutLaws.{listed_ended, listed_next, host_ended, host_page, host_ends}
use Rattle.round_trip.specs.Pages.{read_pages, written_pages, blanked, InMemory, back_to_back, listed}
use Rattle.round_trip.specs.WriteThenRead.{written_read_back, written_given_back}
use Rattle.round_trip.specs.CompleteReading.{answered_complete}

-- `cut` takes apart what `join` puts into one run: no pages are no bytes; if there are no bytes, nothing is
-- next; and if a page of good form is first, it is cut off just at its end, whatever is after it.
pub record TakesApart (cut : List ℕ → Next) (join : List (List ℕ) → List ℕ) : Type 0 where
  pub empty : join [] ≡ []
  pub none : cut [] ≡ ended
  pub first : (p : List ℕ) (ps : List (List ℕ)) (t : List ℕ) → page_form p ≡ true
      → cut (join (p ∷ ps) ++ t) ≡ next p (join ps ++ t)

-- The host's cut: a page of good form ends "after the records its head counts", whatever is after it.
host_first : (p t : List ℕ) → page_form p ≡ true → host_cut (p ++ t) ≡ next p t
host_first p t e =
    let form = whole_form p t e in
    let ends = host_ends (p ++ t) form in
    host_page (p ++ t) (omega arith) form ∙ rw (whole_cut p t e, whole_rest p t e)

-- The listing's cut: a page of good form has at most 512 bytes, so its length is a u16 that reads back.
listed_first : (p t : List ℕ) → page_form p ≡ true → listed_cut (u16_bytes (length p) ++ p ++ t) ≡ next p t
listed_first p t e =
    let n = length p in
    let u = u16_bytes n in
    let s = u ++ p ++ t in
    let short = page_short p e in
    let two = u16_length n in
    let whole : length (u ++ p) ≡ 2 + n = length-append u p ∙ rw two in
    let size : length s ≡ 2 + n + length t = length-append (u ++ p) t ∙ rw whole in
    let component_end : s ≡ u ++ (p ++ t) = append_assoc u p t in
    let read : u16_at s 0 ≡ n = rw component_end (u16_back n (p ++ t) (omega arith)) in
    let page : drop 2 s ≡ p ++ t = rw component_end (drop_at u (p ++ t) 2 two) in
    listed_next s (omega arith) (omega arith) (omega arith) (omega arith)
    ∙ rw (read, page, take-append_seam p t, drop_at (u ++ p) t (2 + n) whole)

-- The host's cut takes apart pages back to back.
pub host_apart : TakesApart host_cut back_to_back
host_apart =
    record {
      empty = refl;
      none = host_ended [] refl;
      first = λ p ps t e. rw (append_assoc p (back_to_back ps) t) (host_first p (back_to_back ps ++ t) e);
    }

-- The listing's cut takes apart pages each of which comes after its length.
pub listed_apart : TakesApart listed_cut listed
listed_apart =
    record {
      empty = refl;
      none = listed_ended [] refl;
      first = λ p ps t e.
          rw (append_assoc (u16_bytes (length p) ++ p) (listed ps) t) (listed_first p (listed ps ++ t) e);
    }

-- What it tells that all pages of ps are taken one after another, from the collector c₀ to the collector c, and that a
-- is the answer then.
pub record AllTaken (cut : List ℕ → Next) (join : List (List ℕ) → List ℕ) (c₀ c : Collector) (a : Result Answer ℕ)
    (ps : List (List ℕ)) : Type 0 where
  -- The collector c keeps the rules.
  pub held : Held c
  -- It has taken as many pages more as there are in ps.
  pub pages : c.pages ≡ c₀.pages + length ps
  -- The answer says whether it is complete.
  pub answer : a ≡ Ok (cond c.layout.complete Complete More)
  -- A run that begins with the pages is read from c₀ on as the bytes after them are read from c on.
  pub reads : (t : List ℕ) → read_from cut c₀ (join ps ++ t) ≡ read_from cut c t

-- An answer that is no refusal says that all pages are taken, since taking ends at the first that is refused.
pub all_taken : {cut : List ℕ → Next} {join : List (List ℕ) → List ℕ} → TakesApart cut join
    → (c₀ c : Collector) (a : Result Answer ℕ) (ps : List (List ℕ)) → Held c₀ → number_of a ≡ 0
    → read_pages c₀ ps ≡ record { answer = a; collector = c } → AllTaken cut join c₀ c a ps
all_taken {cut} {join} w c₀ c a [] h n e =
    let same : c₀ ≡ c = ap (λ (r : Taken). r.collector) e in
    let said : Ok (cond c₀.layout.complete Complete More) ≡ a = ap (λ (r : Taken). r.answer) e in
    let k : AllTaken cut join c₀ c₀ a [] =
    record { held = h; pages = omega arith; answer = sym said; reads = λ t. rw w.empty } in
    subst (λ (d : Collector). AllTaken cut join c₀ d a []) same k
all_taken {cut} {join} w c₀ c a (p ∷ ps) h n e =
    let first = open_in c₀ p in
    let number = number_of first.answer in
    let f : cond (eqb number 0) (read_pages first.collector ps) first ≡ record { answer = a; collector = c } =
    rw (page_open c₀ h p) at e in
    bool_cases (eqb number 0)
    (λ z. let taken : number ≡ 0 = eqb-true number 0 z in
    let page = open_taken c₀ p (sym (settled_number (open_refusal c₀ p) c₀ (head_of p) (components_of p)) ∙ taken) in
    let r = all_taken w first.collector c a ps (taken_held c₀ h p taken) n (rw z at f) in
    record {
      held = r.held;
      pages = omega (arith, r.pages, taken_pages c₀ h p taken);
      answer = r.answer;
      reads = λ t.
          read_taken c₀ h cut (join (p ∷ ps) ++ t) page.0 p (join ps ++ t) (w.first p ps t page.1) taken
          ∙ r.reads t;
    })
    (λ z. let stopped : first ≡ record { answer = a; collector = c } = rw z at f in
    absurd (eqb-false number 0 z (ap (λ (r : Taken). number_of r.answer) stopped ∙ n)))

-- The answer is "more wanted" only if the collector is not complete.
answered_more : (b : Bool) → ◌≡◌ {A = Result Answer ℕ} (Ok More) (Ok (cond b Complete More)) → b ≡ false
answered_more true e = cc
answered_more false e = refl

-- The laws of reading, for any way to put pages into one run and to take them apart. Of the pages ps:
module _ {cut : List ℕ → Next} {join : List (List ℕ) → List ℕ} (w : TakesApart cut join) (ps : List (List ℕ))
    (c : Collector) where
  -- if a new collector takes all of them, and c is the collector then,
  module _ (a : Result Answer ℕ) (n : number_of a ≡ 0)
      (e : read_pages new_collector ps ≡ record { answer = a; collector = c }) where
    pub new_taken : AllTaken cut join new_collector c a ps
    new_taken = all_taken w new_collector c a ps new_held n e

    -- c has taken as many pages,
    pub pages_taken : c.pages ≡ length ps
    pages_taken = omega (arith, new_taken.pages)

    -- and a run that begins with them is read as the bytes after them are read from c on;
    pub read_on_lem : (t : List ℕ) → read_run cut (join ps ++ t) ≡ read_from cut c t
    read_on_lem t = read_start cut (join ps ++ t) ∙ new_taken.reads t

  -- if the last of them completes the collector,
  module _ (e : read_pages new_collector ps ≡ record { answer = Ok Complete; collector = c }) where
    complete : c.layout.complete ≡ true
    unfolding number_of
    complete = answered_complete c.layout.complete (new_taken (Ok Complete) refl e).answer

    read_closes : (t : List ℕ) → read_run cut (join ps ++ t) ≡ closed c t
    unfolding number_of
    read_closes t = read_on_lem (Ok Complete) refl e t ∙ read_closed c (new_taken (Ok Complete) refl e).held cut t complete

    -- the run of them is read to the layout that c gives,
    pub read_complete : read_run cut (join ps) ≡ record { refusal = 0; page = length ps; layout = (layout_out c).layout }
    unfolding number_of layout_out
    read_complete =
        let sound = facts_sound c (new_taken (Ok Complete) refl e).held.sound in
        ap (read_run cut) (sym (append-nil (join ps)))
        ∙ read_closes []
        ∙ rw (sound, complete, pages_taken (Ok Complete) refl e)

    -- and with any byte after them it is refused;
    pub more_after : (t : List ℕ) → 0 < length t → read_run cut (join ps ++ t) ≡ refused_at 2 (length ps)
    unfolding number_of
    more_after t h = read_closes t ∙ closed_more c t h ∙ ap (refused_at 2) (pages_taken (Ok Complete) refl e)

  -- if pages are outstanding, the run of them is refused.
  pub read_outstanding : read_pages new_collector ps ≡ record { answer = Ok More; collector = c }
      → read_run cut (join ps) ≡ refused_at 1 (length ps)
  unfolding number_of
  read_outstanding e =
      let r = new_taken (Ok More) refl e in
      ap (read_run cut) (sym (append-nil (join ps)))
      ∙ read_on_lem (Ok More) refl e []
      ∙ read_ended c r.held cut [] (answered_more c.layout.complete r.answer) w.none
      ∙ ap (refused_at 1) (pages_taken (Ok More) refl e)

-- A complete run is read as its pages are. The pages `ps` are taken one after another by a new collector, and the last
-- of them completes it; `c` is the collector then. Put back to back, they are read without a refusal, all of them, and
-- the layout is the one that `c` gives: each page is found by "ending after the records its head counts".
pub host_reads : (ps : List (List ℕ)) (c : Collector)
    → read_pages new_collector ps ≡ record { answer = Ok Complete; collector = c }
    → read_run host_cut (back_to_back ps) ≡ record { refusal = 0; page = length ps; layout = (layout_out c).layout }
host_reads = read_complete host_apart

-- The same if each page comes after its length: "The program reads pages, each after its u16 length".
pub listed_reads : (ps : List (List ℕ)) (c : Collector)
    → read_pages new_collector ps ≡ record { answer = Ok Complete; collector = c }
    → read_run listed_cut (listed ps) ≡ record { refusal = 0; page = length ps; layout = (layout_out c).layout }
listed_reads = read_complete listed_apart

-- "after the last page any byte gives 2", at the page that would come next: after complete pages back to back,
pub host_more_after : (ps : List (List ℕ)) (c : Collector)
    → read_pages new_collector ps ≡ record { answer = Ok Complete; collector = c }
    → (t : List ℕ) → 0 < length t → read_run host_cut (back_to_back ps ++ t) ≡ refused_at 2 (length ps)
host_more_after = more_after host_apart

-- and after complete pages that come after their lengths.
pub listed_more_after : (ps : List (List ℕ)) (c : Collector)
    → read_pages new_collector ps ≡ record { answer = Ok Complete; collector = c }
    → (t : List ℕ) → 0 < length t → read_run listed_cut (listed ps ++ t) ≡ refused_at 2 (length ps)
listed_more_after = more_after listed_apart

-- "Input that ends with pages outstanding gives number 1 with P the pages read". The pages `ps` are taken one after
-- another by a new collector, and then more are wanted. Put back to back,
pub host_outstanding : (ps : List (List ℕ)) (c : Collector)
    → read_pages new_collector ps ≡ record { answer = Ok More; collector = c }
    → read_run host_cut (back_to_back ps) ≡ refused_at 1 (length ps)
host_outstanding = read_outstanding host_apart

-- and each after its length.
pub listed_outstanding : (ps : List (List ℕ)) (c : Collector)
    → read_pages new_collector ps ≡ record { answer = Ok More; collector = c }
    → read_run listed_cut (listed ps) ≡ refused_at 1 (length ps)
listed_outstanding = read_outstanding listed_apart

-- The collector that has taken all pages of a valid layout gives that layout, its unused places blank.
layout_back : (l : Layout) → valid l ≡ true → InMemory l
    → (layout_out (record { pages = length (written_pages l); layout = blanked l })).layout ≡ blanked l
layout_back l e m =
    rw (written_read_back l e m) at (ap (λ (o : LayoutOut). o.layout) (written_given_back l e m))

-- "What the writer writes reads back to the same layout", from one run of bytes: the pages that the writer writes of a
-- valid layout, put back to back, are read without a refusal, all of them, to that layout. (`blanked l` is l with the
-- places of its arrays that no count reaches blank: they mean nothing and are not written. `InMemory l` says that the
-- numbers fit their types, as those of every layout in memory do.)
pub host_written : (l : Layout) → valid l ≡ true → InMemory l
    → read_run host_cut (back_to_back (written_pages l))
    ≡ record { refusal = 0; page = length (written_pages l); layout = blanked l }
host_written l e m = host_reads (written_pages l) _ (written_read_back l e m) ∙ rw (layout_back l e m)

-- The same if each page comes after its length.
pub listed_written : (l : Layout) → valid l ≡ true → InMemory l
    → read_run listed_cut (listed (written_pages l))
    ≡ record { refusal = 0; page = length (written_pages l); layout = blanked l }
listed_written l e m = listed_reads (written_pages l) _ (written_read_back l e m) ∙ rw (layout_back l e m)
