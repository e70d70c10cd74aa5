-- Runs of pages: pages are taken from bytes one after another, into a new collector, until it is complete. How the next
-- page is cut from the bytes is a parameter.
use Rattle.std.specs.Prelude.{ℕ, zero, suc, ◌+◌, List, [], ◌∷◌, cond, ◌&&◌, eqb, leb, length, take, drop}
use Rattle.bytes_le.specs.Numbers.{u16_at}
use Rattle.layout.specs.declared.Layout.{Layout}
use Rattle.layout.specs.Records.{packed, no_layout}
use Rattle.page.specs.Form.{page_end}
use Rattle.collector.specs.declared.Collector.{Collector}
use Rattle.collector.specs.Collector.{new_collector, gathered}
use Rattle.collector.specs.Taking.{number_of, page_in}

-- What is next in the bytes: nothing, a page that is not whole, or a whole page and the bytes after it.
pub data Next : Type 0 where
  ended : Next
  broken : Next
  next : List ℕ → List ℕ → Next

-- What reading a run gives: 0, the number of pages, and the layout; or the number of the first refusal, the number of its
-- page, counted from 0, and a blank layout.
pub record Reading : Type 0 where
  pub refusal : ℕ
  pub page : ℕ
  pub layout : Layout

-- A reading that ends with a refusal at page p, counted from 0.
abbrev pub refused_at : ℕ → ℕ → Reading
refused_at n p = record { refusal = n; page = p; layout = no_layout }

-- A reading whose collector is complete: "after the last page any byte gives 2".
abbrev pub closed : Collector → List ℕ → Reading
closed c [] = record { refusal = 0; page = c.pages; layout = packed c.layout.generation (gathered c) }
closed c (b ∷ rest) = refused_at 2 c.pages

-- A reading whose collector wants more pages, by what is next: "Input that ends with pages outstanding gives number
-- 1 with P the pages read"; a page that is not whole gives 3, and one that is refused its number; `on` reads on after
-- a page that is taken.
abbrev pub following : (Collector → List ℕ → Reading) → Collector → Next → Reading
following on c ended = refused_at 1 c.pages
following on c broken = refused_at 3 c.pages
following on c (next p rest) =
    cond (eqb (number_of (page_in c p).answer) 0)
    (on (page_in c p).collector rest)
    (refused_at (number_of (page_in c p).answer) c.pages)

-- Reading on until complete, with at most `left` pages to come.
abbrev pub read_on : (List ℕ → Next) → ℕ → Collector → List ℕ → Reading
read_on cut zero c s = refused_at 5 c.pages
read_on cut (suc left) c s = cond c.layout.complete (closed c s) (following (read_on cut left) c (cut s))

-- Reading from a new collector. It takes at most 16 pages, since each has a component, and the 17th look at the bytes
-- finds it complete or refuses; so the reading never ends for want of pages to come.
unfoldable pub read_run : (List ℕ → Next) → List ℕ → Reading
read_run cut s = read_on cut 17 new_collector s

-- The listing's pages: "The program reads pages, each after its u16 length"; "a cut length or page, or a length above
-- 512, gives 3".
unfoldable pub listed_cut : List ℕ → Next
listed_cut s =
    cond (eqb (length s) 0)
    ended
    (cond (leb 2 (length s) && leb (u16_at s 0) 512 && leb (2 + u16_at s 0) (length s))
    (next (take (u16_at s 0) (drop 2 s)) (drop (2 + u16_at s 0) s))
    broken)

-- The host's pages: "pages back to back, each ending after the records its head counts".
unfoldable pub host_cut : List ℕ → Next
host_cut s =
    cond (eqb (length s) 0)
    ended
    (cond (leb (page_end s) (length s)) (next (take (page_end s) s) (drop (page_end s) s)) broken)
