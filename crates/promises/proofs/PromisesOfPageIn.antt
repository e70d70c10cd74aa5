-- The promises on pages in and the layout out of a collector, beside those of `Promises`, which says how to read this.
-- The contracts of `moorsickle::take_page` and `layout_of` give `page_in` and `layout_out`. What is in quotes is
-- document 01's.
use Rattle.std.specs.Prelude.{ℕ, ◌≤◌, ◌<◌, ◌≡◌, Ok, List, true, false, cond, length}
use Rattle.layout.specs.Records.{packed, no_layout}
use Rattle.layout.specs.Facts.{Keeps}
use Rattle.page.specs.Content.{head_of, components_of}
use Rattle.collector.specs.declared.Collector.{Collector}
use Rattle.collector.specs.declared.Answer.TheVariants.{More, Complete}
use Rattle.collector.specs.Collector.{new_collector, gathered, collector_ok}
use Rattle.collector.specs.Taking.{number_of, added, page_refusal, page_in}
use Rattle.collector.specs.Giving.{layout_out}
use Rattle.collector.proofs.CallLaws as collecting
use Rattle.round_trip.specs.Pages.{read_pages, components_in, some_pages, ArePages}
use Rattle.round_trip.specs.AnyPaging as anyhow
use Rattle.promises.specs.Numbers.{IsFirst}
use Rattle.promises.specs.Calls.{page_in_numbers, layout_out_numbers}
use Rattle.promises.proofs.CallLaws as calls

-- "Page in: 1 to 8."
pub page_in_number : (c : Collector) (s : List ℕ) → IsFirst (page_refusal c s) (page_in_numbers c s)
page_in_number = calls.page_in_number

-- The answer has that number;
pub page_in_answer : (c : Collector) (s : List ℕ) → number_of (page_in c s).answer ≡ page_refusal c s
page_in_answer = collecting.answer_number_lem

-- a page that is refused leaves the collector as it was;
pub page_in_keeps : (c : Collector) (s : List ℕ) → 0 < page_refusal c s → (page_in c s).collector ≡ c
page_in_keeps = collecting.refused_collector

-- and one that is not is taken: "An accepted page answers "more wanted" or "complete"", by its own flag, and its
-- components are after those that were gathered.
pub page_in_taken : (c : Collector) (s : List ℕ) → number_of (page_in c s).answer ≡ 0
    → ((page_in c s).answer ≡ Ok (cond (head_of s).more More Complete))
    × ((page_in c s).collector ≡ added c (head_of s) (components_of s))
page_in_taken = calls.page_in_taken

-- After the answer "more wanted" pages are outstanding: what was gathered is refused by every call that takes a layout
-- (`Promises: outstanding_refused`).
pub page_in_more : (c : Collector) (s : List ℕ) → (page_in c s).answer ≡ Ok More
    → (page_in c s).collector.layout.complete ≡ false
page_in_more = collecting.more_outstanding

-- "Layout out of a collector: 1."
pub layout_out_number : (c : Collector) → IsFirst (layout_out c).refusal (layout_out_numbers c)
layout_out_number = calls.layout_out_number

-- "Only a complete collector gives a layout": one with pages outstanding gives none.
pub outstanding_none : (c : Collector) → c.layout.complete ≡ false
    → layout_out c ≡ record { refusal = 1; layout = no_layout }
outstanding_none = collecting.outstanding_none

-- One that is complete, and to which 1 does not apply, gives the components that were gathered, and their generation.
pub complete_given : (c : Collector) → collector_ok c ≡ true → c.layout.complete ≡ true
    → layout_out c ≡ record { refusal = 0; layout = packed c.layout.generation (gathered c) }
complete_given = collecting.complete_given

-- "The reader takes any paging."
pub any_paging : (g : ℕ) (ps : List (List ℕ)) → ArePages g 0 ps → some_pages ps ≡ true → length (components_in ps) ≤ 16
    → Keeps false (components_in ps)
    → read_pages new_collector ps
    ≡ record {
      answer = Ok Complete;
      collector = record { pages = length ps; layout = packed g (components_in ps) };
    }
any_paging = anyhow.any_paging
