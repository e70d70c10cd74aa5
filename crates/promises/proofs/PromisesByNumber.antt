-- The promises on refusals, of every number: beside those of `Promises` and `PromisesForC`, which speak of the refusals
-- of the code. `Promises` says how to read it. An answer is refused by a number that is no refusal's under no
-- condition.
use Rattle.std.specs.Prelude.{ℕ, ◌≡◌, Err, List, ◌↔◌, false, length}
use Rattle.std.proofs.Common.{sym, ◌∙◌}
use Rattle.layout.specs.declared.Object.{Object}
use Rattle.layout.specs.declared.Layout.{Layout}
use Rattle.collector.specs.declared.Collector.{Collector}
use Rattle.paging.specs.Paging.{written_page, out_refusal, out_answer}
use Rattle.mapping.specs.Answers.{refuses}
use Rattle.mapping.specs.Homes.{Home, in_object, home_of}
use Rattle.mapping.specs.Lookup.{lookup_of}
use Rattle.mapping.specs.Back.{byte_of, back_of}
use Rattle.mapping.specs.Cutting.{cut_of, cut_count}
use Rattle.growth_rules.specs.Steps.{Call}
use Rattle.growth_rules.specs.Growing.{grow_of}
use Rattle.growth_rules.specs.CallFacts.{Leaves}
use Rattle.growth_rules.proofs.CallLaws.{refused_some, refusal_leaves}
use Rattle.gateway.specs.Host.{host_reading, host_layout, host_components, lookup_number, home_after, back_number}
use Rattle.gateway.specs.Host.{offset_after}
use Rattle.gateway.specs.Host.{cut_number}
use Rattle.gateway.proofs.HostLaws.{lookup_same, back_same, cut_same, page_same}
use Rattle.gateway.specs.HostGrowth.{host_grown}
use Rattle.promises.specs.Numbers.{RefusedBy}
use Rattle.promises.specs.Calls.{lookup_numbers, back_numbers, cut_numbers, cut_room, growth_numbers}
use Rattle.promises.specs.HostCallLaws as host
use Rattle.promises.specs.HostCallLaws.{CutKept, PageKept, GrowKept}
use Rattle.promises.specs.OutstandingLaws.{not_valid, page_refuses}
use Rattle.promises.proofs.CallLaws as calls

-- A lookup is refused by n exactly if n is the first number of its call that applies.
pub lookup_refused : (l : Layout) (b n : ℕ) → (refuses n ≡ lookup_of b l) ↔ RefusedBy n (lookup_numbers l b)
lookup_refused l b =
    calls.refused_exactly (lookup_of b l) (lookup_numbers l b) (calls.lookup_number_lem l b)
    (calls.lookup_some_number l b)

-- So is a way back,
pub back_refused : (l : Layout) (o : Object) (p n : ℕ)
    → (refuses n ≡ back_of (in_object o p) l) ↔ RefusedBy n (back_numbers l o p)
back_refused l o p =
    calls.refused_exactly (back_of (in_object o p) l) (back_numbers l o p) (calls.back_number_lem l o p)
    (calls.back_some_number l (in_object o p))

-- a request to be cut, and then the lent numbers stay,
pub cut_refused : (l : Layout) (a m : ℕ) (room : List ℕ) (n : ℕ)
    → ((refuses n ≡ cut_of a m (length room) l) ↔ RefusedBy n (cut_numbers l a m (length room)))
    × (refuses n ≡ cut_of a m (length room) l → cut_room l a m room ≡ room)
cut_refused l a m room n = (
  calls.refused_exactly (cut_of a m (length room) l) (cut_numbers l a m (length room))
      (calls.cut_number_lem l a m (length room))
      (calls.cut_some_number l a m room) n,
  calls.cut_refused l a m room n,
)

-- and a step of growth, and then the layout and the table stay.
pub growth_refused : (l : Layout) (k : Call) (n : ℕ)
    → ((refuses n ≡ (grow_of l k).answer) ↔ RefusedBy n (growth_numbers l k))
    × (refuses n ≡ (grow_of l k).answer → Leaves l k (grow_of l k))
growth_refused l k n = (
  calls.refused_exactly (grow_of l k).answer (growth_numbers l k) (calls.growth_number l k) (refused_some l k) n,
  λ e. refusal_leaves l k n (sym e),
)

-- A page out of a layout with pages outstanding is refused by 1.
pub outstanding_page : (c : Collector) → c.layout.complete ≡ false → (k room : ℕ)
    → out_answer (out_refusal c.layout k room) (written_page c.layout k) ≡ Err 1
outstanding_page c e k room = page_refuses c.layout (not_valid c.layout e) k room

-- The entry points for C, if the reading is not refused: a call that is refused by n returns n, and leaves all that is
-- lent.
module _ (pages : List ℕ) (z : (host_reading pages).refusal ≡ 0) where
  pub c_lookup_refused : (b : ℕ) (home : List ℕ) (n : ℕ) → refuses n ≡ lookup_of b (host_layout pages)
      → (lookup_number pages b ≡ n) × (home_after pages b home ≡ home)
  c_lookup_refused b home n e =
      let u = host.refuses_under n (lookup_number pages b) (home_of b (host_components pages))
      (e ∙ lookup_same pages z b) in
      host.lookup_kept pages b home n u.1 u.0

  pub c_back_refused : (h : Home) (offset n : ℕ) → refuses n ≡ back_of h (host_layout pages)
      → (back_number pages h ≡ n) × (offset_after pages h offset ≡ offset)
  c_back_refused h offset n e =
      let u = host.refuses_under n (back_number pages h) (byte_of h (host_components pages)) (e ∙ back_same pages z h)
      in
      host.back_kept pages h offset n u.1 u.0

  pub c_cut_refused : (a m : ℕ) (room : List ℕ) (count n : ℕ) → refuses n ≡ cut_of a m (length room) (host_layout pages)
      → CutKept pages a m room count n
  c_cut_refused a m room count n e =
      let u = host.refuses_under n (cut_number pages a m room) (cut_count a m (host_components pages))
      (e ∙ cut_same pages z a m room) in
      host.cut_kept pages a m room count n u.1 u.0

  pub c_page_refused : (k : ℕ) (buffer : List ℕ) (written n : ℕ)
      → Err n ≡ out_answer (out_refusal (host_layout pages) k (length buffer)) (written_page (host_layout pages) k)
      → PageKept pages k buffer written n
  c_page_refused k buffer written n e =
      let l = host_layout pages in
      let u = host.out_refused n (out_refusal l k (length buffer)) (written_page l k) e in
      host.page_kept pages k buffer written n u.1 (sym (page_same pages z k buffer) ∙ u.0)

  pub c_grow_refused : (offset mark : ℕ) (table grown answers : List ℕ) (n : ℕ)
      → refuses n ≡ (host_grown pages offset mark table).answer → GrowKept pages offset mark table grown answers n
  c_grow_refused offset mark table grown answers = host.grow_refused pages offset mark table grown answers z
