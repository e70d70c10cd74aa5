-- What was read is written again, over whole layouts and all their pages.
use Rattle.std.specs.Prelude.{ℕ, ◌≡◌, List, true, Ok}
use Rattle.collector.specs.declared.Collector.{Collector}
use Rattle.collector.specs.declared.Answer.TheVariants.{Complete}
use Rattle.collector.specs.Collector.{new_collector}
use Rattle.collector.specs.Giving.{layout_out}
use Rattle.round_trip.specs.Pages.{read_pages, written_pages, paged_by_rule, AllBytes}
use Rattle.round_trip.specs.CompleteReading.{reading_pages, reading_view, reading_few, reading_short}
use Rattle.round_trip.specs.SamePages.{pages_same}

-- "rewriting a reading gives the same bytes where they were paged by the writer's rule". The pages `ps`, each a list of
-- bytes, are taken one after another by a new collector, and the last of them completes it; `c` is the collector then.
-- If the pages were paged by the writer's rule, the pages of the layout that `c` gives, written one after another, are
-- `ps`: as many pages, in their order, byte for byte. `CompleteReading` says more of `c`: it does give a layout
-- (`reading_given`), and that layout is valid (`reading_valid`), so refusal 1 applies neither to `c` nor to writing.
pub read_written_again : (ps : List (List ℕ)) (c : Collector) → AllBytes ps
    → read_pages new_collector ps ≡ record { answer = Ok Complete; collector = c }
    → paged_by_rule ps ≡ true
    → written_pages (layout_out c).layout ≡ ps
unfolding written_pages
read_written_again ps c b e r =
    pages_same 16 0 (layout_out c).layout ps b
    (reading_pages ps c e)
    (reading_few ps c e)
    r
    (reading_view ps c e)
    (reading_short ps c e)
