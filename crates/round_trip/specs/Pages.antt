-- The pages of a layout as a list: taken one after another, written one after another, paged by the writer's rule, and
-- in one run of bytes.
use Rattle.std.specs.Prelude.{ℕ, zero, suc, ◌+◌, ◌^◌, ◌<◌, ◌≡◌, List, [], ◌∷◌, ◌++◌, map, Bool, true, false, cond, ◌&&◌, eqb, ltb, length, Ok}
use Rattle.bytes_le.specs.Numbers.{u16_bytes, AreBytes}
use Rattle.layout.specs.declared.Component.{Component}
use Rattle.layout.specs.declared.Layout.{Layout}
use Rattle.layout.specs.Records.{view, packed}
use Rattle.page.specs.Form.{page_form, ends_at, records_at}
use Rattle.page.specs.Content.{head_of, components_of}
use Rattle.page.specs.Same.{trimmed, NumbersFit}
use Rattle.collector.specs.declared.Collector.{Collector}
use Rattle.collector.specs.Taking.{Taken}
use Rattle.collector.specs.Runs.{Reading}
use Rattle.collector.specs.declared.Answer.TheVariants.{More, Complete}
use Rattle.collector.specs.Taking.{number_of, page_in}
use Rattle.collector.specs.Runs.{closed}
use Rattle.paging.specs.Paging.{is_some, from_page, written_page}

-- Pages taken one after another, up to the first that is refused.
abbrev pub read_pages : Collector → List (List ℕ) → Taken
read_pages c [] = record { answer = Ok (cond c.layout.complete Complete More); collector = c }
read_pages c (p ∷ ps) =
    cond (eqb (number_of (page_in c p).answer) 0) (read_pages (page_in c p).collector ps) (page_in c p)

-- The pages of a layout from page k on, at most n of them: they are written one after another until there is no such
-- page.
abbrev pub written_from : ℕ → ℕ → Layout → List (List ℕ)
written_from zero k l = []
written_from (suc n) k l = cond (is_some (from_page k (view l))) (written_page l k ∷ written_from n (suc k) l) []

-- All pages of a layout. A layout of at most 16 components has at most 16 pages, since each has a component.
unfoldable pub written_pages : Layout → List (List ℕ)
written_pages l = written_from 16 0 l

-- The layout with the unused places of its arrays blank: all that a page tells of a layout, and all that any rule looks
-- at.
abbrev pub blanked : Layout → Layout
blanked l = packed l.generation (map trimmed (view l))

-- The size of the first component of a page, its object records with it.
abbrev pub first_size : List ℕ → ℕ
first_size p = ends_at 0 (records_at p 16)

-- The pages were paged by the writer's rule: "The writer puts a component into the current page if it fits in 512
-- bytes, else it starts the next": the first component of each later page did not fit into the page before it.
abbrev pub paged_by_rule : List (List ℕ) → Bool
paged_by_rule [] = true
paged_by_rule (p ∷ []) = true
paged_by_rule (p ∷ q ∷ ps) = ltb 512 (length p + first_size q) && paged_by_rule (q ∷ ps)

-- The elements of each page are bytes, as those of every slice of bytes are.
abbrev pub AllBytes : List (List ℕ) → Type 0
AllBytes [] = Unit {0}
AllBytes (p ∷ ps) = AreBytes p × AllBytes ps

-- What taking pages gives if the last of them completes the collector: the answer "complete", and the collector c.
abbrev pub completed : Collector → Taken
completed c = record { answer = Ok Complete; collector = c }

-- The components of pages, one page after the other.
abbrev pub components_in : List (List ℕ) → List Component
components_in [] = []
components_in (p ∷ ps) = components_of p ++ components_in ps

-- Are there pages?
abbrev pub some_pages : List (List ℕ) → Bool
some_pages [] = false
some_pages (p ∷ ps) = true

-- The bytes are page k of a layout of generation g, and `more` says whether pages follow it.
pub record IsPage (g k : ℕ) (more : Bool) (p : List ℕ) : Type 0 where
  pub form : page_form p ≡ true
  pub number : (head_of p).number ≡ k
  pub generation : (head_of p).generation ≡ g
  pub follows : (head_of p).more ≡ more

-- The pages are those of a layout of generation g from page k on, up to its last.
abbrev pub ArePages : ℕ → ℕ → List (List ℕ) → Type 0
ArePages g k [] = Unit {0}
ArePages g k (p ∷ ps) = IsPage g k (some_pages ps) p × ArePages g (suc k) ps

-- The numbers of each component of the list fit their types.
abbrev pub AllNumbersFit : List Component → Type 0
AllNumbersFit [] = Unit {0}
AllNumbersFit (c ∷ cs) = NumbersFit c × AllNumbersFit cs

-- The numbers of a layout fit their types, as those of every `Layout` in memory do: u32 for the generation, and the
-- types of a component's numbers for those of its components. It asks for no rule: a layout in memory may break any.
pub record InMemory (l : Layout) : Type 0 where
  pub generation : l.generation < 2 ^ 32
  pub components : AllNumbersFit (view l)

-- The pages one after the other: "the layout as pages back to back".
abbrev pub back_to_back : List (List ℕ) → List ℕ
back_to_back [] = []
back_to_back (p ∷ ps) = p ++ back_to_back ps

-- The pages as the listing reads them: "pages, each after its u16 length".
abbrev pub listed : List (List ℕ) → List ℕ
listed [] = []
listed (p ∷ ps) = u16_bytes (length p) ++ p ++ listed ps

-- The bytes s are pages in one run, as `join` puts them; the collector c takes all of these pages, one after another,
-- and the last of them completes it; r is the reading that ends there, with no byte left.
pub record FromPages (join : List (List ℕ) → List ℕ) (c : Collector) (s : List ℕ) (r : Reading) : Type 0 where
  -- The pages, each a list of bytes.
  pub pages : List (List ℕ)
  pub each : AllBytes pages
  -- The run is these pages.
  pub bytes : s ≡ join pages
  -- The collector that has taken them, which is complete.
  pub last : Collector
  pub taken : read_pages c pages ≡ completed last
  -- The reading is the one that ends with that collector.
  pub given : r ≡ closed last []
