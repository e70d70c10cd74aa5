-- Reading the host's pages in place: what is noted of a page is where its components are in the bytes. The rules of fields and
-- of neighbours are asked page by page, distinctness once at the end.
use Rattle.std.specs.Prelude.{ℕ, zero, suc, ◌+◌, min, List, [], ◌++◌, Bool, true, cond, ◌&&◌, eqb, leb, length, drop}
use Rattle.layout.specs.Distinct.{distinct_hold}
use Rattle.page.specs.Form.{counted, page_places, page_end, form_by}
use Rattle.page.specs.Content.{head_of}
use Rattle.collector.specs.Taking.{is_next}
use Rattle.in_place.specs.Places.{components_at}
use Rattle.in_place.specs.Joining.{new_rule_broken}

-- How far a reading has come: the number of a refusal, or 0; where the next page begins; the number of pages taken; their
-- generation; whether more pages are wanted; and the places of the components of the pages taken.
pub record Placed : Type 0 where
  pub refusal : ℕ
  pub at : ℕ
  pub pages : ℕ
  pub generation : ℕ
  pub more : Bool
  pub places : List ℕ

-- Before the first page.
abbrev pub none_placed : Placed
none_placed = record { refusal = 0; at = 0; pages = 0; generation = 0; more = true; places = [] }

-- The number of the refusal of the next page, or 0: 1 if no bytes are left, 3 to 5 as a collector gives them, and 6 or 7 by
-- the rules of fields and of neighbours, of the new components after the old ones.
unfoldable pub next_refusal : List ℕ → Placed → ℕ
next_refusal s p =
    let t = drop p.at s in
    cond (eqb (length t) 0)
    1
    (cond (form_by (min 512 (length t)) t)
    (cond (is_next p.pages p.generation (head_of t))
    (cond (leb (length p.places + counted t) 16)
    (new_rule_broken (head_of t).more (components_at s p.places) (components_at s (page_places p.at t)))
    5)
    4)
    3)

-- The reading with the number of a refusal.
abbrev pub refused_by : ℕ → Placed → Placed
refused_by n p =
    record {
      refusal = n;
      at = p.at;
      pages = p.pages;
      generation = p.generation;
      more = p.more;
      places = p.places;
    }

-- The reading with the next page taken.
abbrev pub with_page : List ℕ → Placed → Placed
with_page s p =
    let t = drop p.at s in
    record {
      refusal = 0;
      at = p.at + page_end t;
      pages = p.pages + 1;
      generation = (head_of t).generation;
      more = (head_of t).more;
      places = p.places ++ page_places p.at t;
    }

-- The reading under the number of a refusal of the next page, or under 0.
abbrev pub placed_by : ℕ → List ℕ → Placed → Placed
placed_by zero s p = with_page s p
placed_by (suc n) s p = refused_by (suc n) p

-- The reading after the next page.
unfoldable pub placed_next : List ℕ → Placed → Placed
placed_next s p = placed_by (next_refusal s p) s p

-- Is a page wanted?
abbrev pub goes_on : Placed → Bool
goes_on p = p.more && eqb p.refusal 0

-- Reading on, at most `left` pages.
abbrev pub placed_on : ℕ → List ℕ → Placed → Placed
placed_on zero s p = p
placed_on (suc left) s p = cond (goes_on p) (placed_on left s (placed_next s p)) p

-- The whole reading. Each page has a component, so the 17th page is refused at the latest.
unfoldable pub placed_run : List ℕ → Placed
placed_run s = placed_on 17 s none_placed

-- The number of the refusal once no page is wanted, or 0: that of a page, else 2 if bytes are after the last page.
abbrev pub end_refusal : List ℕ → Placed → ℕ
end_refusal s p = cond (eqb p.refusal 0) (cond (leb (length s) p.at) 0 2) p.refusal

-- The same with distinctness asked of all pages that were taken: a repeat among them was a refusal before any later one.
unfoldable pub placed_refusal : List ℕ → Placed → ℕ
placed_refusal s p = cond (distinct_hold (components_at s p.places)) (end_refusal s p) 8
