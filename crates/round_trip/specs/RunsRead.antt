-- A run of bytes that is read without a refusal is pages in one run: back to back where the host's cut finds them, each
-- after its length where the listing's does. So reading a run is taking its pages one after another and nothing else,
-- and a run whose pages were paged by the writer's rule is written again byte for byte. The theorems are
-- `host_run_pages` and `listed_run_pages`, which are the converse of `host_reads` and `listed_reads`, and
-- `host_written_again` and `listed_written_again`, at the end.
use Rattle.std.specs.Prelude.{ℕ, zero, suc, ◌+◌, ◌≤◌, ◌≡◌, refl, List, [], ◌∷◌, ◌++◌, Bool, true, false, cond, ◌&&◌, eqb, leb, length, take, drop}
use Rattle.std.proofs.Common.{sym, ap, ◌∙◌, append_assoc, arith, length-drop, take-append-drop, length-take-le, drop-drop, leb-true}
use Rattle.std.proofs.lemmas.Bool.{eqb-false}
use Rattle.lists.specs.Bools.{bool_cases, both_true, clash}
use Rattle.bytes_le.specs.Numbers.{u16_at, u16_bytes, AreBytes}
use Rattle.bytes_le.specs.NumberLaws.{u16_again, bytes_append_left, bytes_append_right}
use Rattle.layout.specs.declared.Layout.{Layout}
use Rattle.page.specs.Form.{page_end}
use Rattle.collector.specs.declared.Collector.{Collector}
use Rattle.collector.specs.Giving.{LayoutOut}
use Rattle.collector.specs.Runs.{Reading}
use Rattle.collector.specs.Collector.{new_collector}
use Rattle.collector.specs.Taking.{number_of, page_in}
use Rattle.collector.specs.Giving.{layout_out}
use Rattle.collector.specs.Runs.{Next, ended, broken, next, closed, following, read_on, read_run, listed_cut, host_cut}
use Rattle.round_trip.specs.Pages.{written_pages, paged_by_rule, back_to_back, listed, FromPages}
use Rattle.round_trip.specs.CompleteReading.{reading_out}
use Rattle.round_trip.specs.ReadThenWrite.{read_written_again}

-- What `cut` takes apart, `join` puts together again: no pages are no bytes; and if the cut finds a page p at the
-- front of the bytes s and `rest` after it, both are bytes, and s is p joined with the pages that the rest is.
pub record PutsTogether (cut : List ℕ → Next) (join : List (List ℕ) → List ℕ) : Type 0 where
  pub empty : join [] ≡ []
  pub page : (s p rest : List ℕ) → AreBytes s → cut s ≡ next p rest → AreBytes p
  pub component_end : (s p rest : List ℕ) → AreBytes s → cut s ≡ next p rest → AreBytes rest
  pub both : (s p rest : List ℕ) → AreBytes s → cut s ≡ next p rest → (ps : List (List ℕ)) → rest ≡ join ps
      → s ≡ join (p ∷ ps)

-- For any way to cut pages from bytes and to put them into one run:
module _ {cut : List ℕ → Next} {join : List (List ℕ) → List ℕ} (w : PutsTogether cut join) where
  -- if the collector is complete and no byte is left, the reading is that of no pages;
  none_left : (c : Collector) (s : List ℕ) → c.layout.complete ≡ true → (closed c s).refusal ≡ 0
      → FromPages join c s (closed c s)
  none_left c [] e z =
      record { pages = []; each = tt; bytes = sym w.empty; last = c; taken = rw e; given = refl }
  none_left c (b ∷ rest) e z = absurd (omega arith)

  -- if it wants more, a page is next and is taken, and the rest is read on;
  page_next : (left : ℕ)
      → ((d : Collector) (t : List ℕ) → AreBytes t → (read_on cut left d t).refusal ≡ 0
      → FromPages join d t (read_on cut left d t))
      → (c : Collector) (s : List ℕ) (n : Next) → AreBytes s → cut s ≡ n
      → (following (read_on cut left) c n).refusal ≡ 0 → FromPages join c s (following (read_on cut left) c n)
  page_next left on c s ended b e z = absurd (omega arith)
  page_next left on c s broken b e z = absurd (omega arith)
  page_next left on c s (next p rest) b e z =
      let k = number_of (page_in c p).answer in
      bool_cases (eqb k 0)
      (λ t. let r = on (page_in c p).collector rest (w.component_end s p rest b e) (rw t at z) in
      record {
        pages = p ∷ r.pages;
        each = (w.page s p rest b e, r.each);
        bytes = w.both s p rest b e r.pages r.bytes;
        last = r.last;
        taken = rw t r.taken;
        given = rw t r.given;
      })
      (λ t. let y : k ≡ 0 = rw t at z in absurd (eqb-false k 0 t y))

  -- so either way, as x says, the bytes are pages if the reading has no refusal;
  pages_by : (left : ℕ)
      → ((d : Collector) (t : List ℕ) → AreBytes t → (read_on cut left d t).refusal ≡ 0
      → FromPages join d t (read_on cut left d t))
      → (c : Collector) (s : List ℕ) (x : Bool) → AreBytes s → c.layout.complete ≡ x
      → (cond x (closed c s) (following (read_on cut left) c (cut s))).refusal ≡ 0
      → FromPages join c s (cond x (closed c s) (following (read_on cut left) c (cut s)))
  pages_by left on c s true b e z = none_left c s e z
  pages_by left on c s false b e z = page_next left on c s (cut s) b refl z

  -- so bytes that are read on without a refusal are pages,
  pages_read : (left : ℕ) (c : Collector) (s : List ℕ) → AreBytes s → (read_on cut left c s).refusal ≡ 0
      → FromPages join c s (read_on cut left c s)
  pages_read zero c s b z = absurd (omega arith)
  pages_read (suc left) c s b z = pages_by left (pages_read left) c s c.layout.complete b refl z

  -- and so is a run.
  pub run_pages : (s : List ℕ) → AreBytes s → (read_run cut s).refusal ≡ 0
      → FromPages join new_collector s (read_run cut s)
  unfolding read_run
  run_pages s b z = pages_read 17 new_collector s b z

-- The parts of what is next: is it a whole page, the page, and the bytes after it?
abbrev is_whole : Next → Bool
is_whole ended = false
is_whole broken = false
is_whole (next p rest) = true

abbrev page_of : Next → List ℕ
page_of ended = []
page_of broken = []
page_of (next p rest) = p

abbrev rest_of : Next → List ℕ
rest_of ended = []
rest_of broken = []
rest_of (next p rest) = rest

-- If a cut gave a page, its test for a whole page holds, and the page and the rest are those that it names.
cut_gave : (x y : Bool) (q r p rest : List ℕ) → cond x ended (cond y (next q r) broken) ≡ next p rest
    → (y ≡ true) × (q ≡ p) × (r ≡ rest)
cut_gave true y q r p rest e = clash {b = true} refl (ap is_whole (sym e))
cut_gave false true q r p rest e = (refl, ap page_of e, ap rest_of e)
cut_gave false false q r p rest e = clash {b = true} refl (ap is_whole (sym e))

-- The bytes that the host's cut takes apart are the page and the rest.
host_parts : (s p rest : List ℕ) → host_cut s ≡ next p rest → s ≡ p ++ rest
unfolding host_cut
host_parts s p rest e =
    let n = page_end s in
    let i = cut_gave (eqb (length s) 0) (leb n (length s)) (take n s) (drop n s) p rest e in
    sym (take-append-drop n s) ∙ rw (i.1, i.2)

-- Those that the listing's cut takes apart are the length of the page, the page and the rest.
listed_parts : (s p rest : List ℕ) → AreBytes s → listed_cut s ≡ next p rest → s ≡ u16_bytes (length p) ++ p ++ rest
unfolding listed_cut
listed_parts s p rest b e =
    let n = u16_at s 0 in
    let short = leb 2 (length s) && leb n 512 in
    let there = leb (2 + n) (length s) in
    let i = cut_gave (eqb (length s) 0) (short && there) (take n (drop 2 s)) (drop (2 + n) s) p rest e in
    let h : 2 + n ≤ length s = leb-true (2 + n) (length s) (both_true short there i.0).1 in
    let len : length p ≡ n = rw (← i.1) (length-take-le n (drop 2 s) (omega (arith, length-drop 2 s))) in
    let front : u16_bytes n ≡ take 2 s = u16_again s 0 b (omega arith) in
    let back : p ++ rest ≡ drop 2 s = rw (← i.1, ← i.2, ← drop-drop n 2 s) (take-append-drop n (drop 2 s)) in
    sym (rw (len, front, append_assoc (take 2 s) p rest, back) (take-append-drop 2 s))

-- Pages back to back are what the host's cut takes apart.
pub host_together : PutsTogether host_cut back_to_back
host_together =
    record {
      empty = refl;
      page = λ s p rest b e. bytes_append_left p rest (rw (host_parts s p rest e) at b);
      component_end = λ s p rest b e. bytes_append_right p rest (rw (host_parts s p rest e) at b);
      both = λ s p rest b e ps r. host_parts s p rest e ∙ ap (λ (t : List ℕ). p ++ t) r;
    }

-- Pages each of which comes after its length are what the listing's cut takes apart.
pub listed_together : PutsTogether listed_cut listed
listed_together =
    record {
      empty = refl;
      page = λ s p rest b e.
          let u = u16_bytes (length p) in
          bytes_append_right u p (bytes_append_left (u ++ p) rest (rw (listed_parts s p rest b e) at b));
      component_end = λ s p rest b e.
          bytes_append_right (u16_bytes (length p) ++ p) rest (rw (listed_parts s p rest b e) at b);
      both = λ s p rest b e ps r.
          listed_parts s p rest b e ∙ ap (λ (t : List ℕ). u16_bytes (length p) ++ p ++ t) r;
    }

-- "pages back to back, each ending after the records its head counts": a run of bytes that the host's reading takes
-- without a refusal is pages back to back and nothing else. A new collector takes these pages one after another, the
-- last of them completes it, and the reading gives the number of pages and the layout of that collector. `host_reads`
-- is the converse.
pub host_run_pages : (s : List ℕ) → AreBytes s → (read_run host_cut s).refusal ≡ 0
    → FromPages back_to_back new_collector s (read_run host_cut s)
host_run_pages = run_pages host_together

-- "The program reads pages, each after its u16 length": a run of bytes that the listing's reading takes without a
-- refusal is pages, each after its length, and nothing else. A new collector takes these pages one after another, the
-- last of them completes it, and the reading gives the number of pages and the layout of that collector.
-- `listed_reads` is the converse.
pub listed_run_pages : (s : List ℕ) → AreBytes s → (read_run listed_cut s).refusal ≡ 0
    → FromPages listed new_collector s (read_run listed_cut s)
listed_run_pages = run_pages listed_together

-- A run that was read from pages paged by the writer's rule is the run of the pages that the writer writes of the
-- layout that was read.
pub run_written_again : {join : List (List ℕ) → List ℕ} (s : List ℕ) (r : Reading) (f : FromPages join new_collector s r)
    → paged_by_rule f.pages ≡ true → join (written_pages r.layout) ≡ s
run_written_again {join} s r f rule =
    let layout : r.layout ≡ (layout_out f.last).layout =
    ap (λ (x : Reading). x.layout) f.given
    ∙ ap (λ (o : LayoutOut). o.layout) (sym (reading_out f.pages f.last f.taken)) in
    let pages : written_pages (layout_out f.last).layout ≡ f.pages =
    read_written_again f.pages f.last f.each f.taken rule in
    ap (λ (l : Layout). join (written_pages l)) layout ∙ ap join pages ∙ sym f.bytes

-- "rewriting a reading gives the same bytes where they were paged by the writer's rule", for one run of bytes: if
-- the host's reading takes the bytes s without a refusal, and the pages that it finds in them were paged by the
-- writer's rule, the pages of the layout read, written one after another and put back to back, are s.
pub host_written_again : (s : List ℕ) (b : AreBytes s) (z : (read_run host_cut s).refusal ≡ 0)
    → paged_by_rule (host_run_pages s b z).pages ≡ true
    → back_to_back (written_pages (read_run host_cut s).layout) ≡ s
host_written_again s b z = run_written_again s (read_run host_cut s) (host_run_pages s b z)

-- The same of the listing's reading, each page written after its length.
pub listed_written_again : (s : List ℕ) (b : AreBytes s) (z : (read_run listed_cut s).refusal ≡ 0)
    → paged_by_rule (listed_run_pages s b z).pages ≡ true
    → listed (written_pages (read_run listed_cut s).layout) ≡ s
listed_written_again s b z = run_written_again s (read_run listed_cut s) (listed_run_pages s b z)
