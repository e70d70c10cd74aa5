-- The promises on whole layouts written and read, beside `written_given_back` and `read_written_again` of `Promises`,
-- which says how to read this. What is in quotes is document 01's.
use Rattle.std.specs.Prelude.{ℕ, ◌≡◌, Ok, List, true, length}
use Rattle.bytes_le.specs.Numbers.{AreBytes}
use Rattle.layout.specs.declared.Layout.{Layout}
use Rattle.layout.specs.Rules.{valid}
use Rattle.collector.specs.declared.Answer.TheVariants.{Complete}
use Rattle.collector.specs.Collector.{new_collector}
use Rattle.collector.specs.Runs.{Reading, read_run, host_cut, listed_cut}
use Rattle.round_trip.specs.Pages.{read_pages, written_pages, blanked, paged_by_rule, InMemory}
use Rattle.round_trip.specs.Pages.{back_to_back, listed, FromPages}
use Rattle.round_trip.specs.WriteThenRead as writing
use Rattle.round_trip.specs.RunsOfPages.{host_written, listed_written}
use Rattle.round_trip.specs.RunsRead.{run_written_again, host_run_pages, listed_run_pages}

-- "What the writer writes reads back to the same layout": page by page, from a new collector, which then is complete
-- and holds that layout (`blanked l` is l with the places blank that no count reaches);
pub written_read_back : (l : Layout) → valid l ≡ true → InMemory l
    → read_pages new_collector (written_pages l)
    ≡ record {
      answer = Ok Complete;
      collector = record { pages = length (written_pages l); layout = blanked l };
    }
written_read_back = writing.written_read_back

-- as one run of bytes, "pages back to back" as the host gives them;
pub host_read_back : (l : Layout) → valid l ≡ true → InMemory l
    → read_run host_cut (back_to_back (written_pages l))
    ≡ record { refusal = 0; page = length (written_pages l); layout = blanked l }
host_read_back = host_written

-- and as one run with each page "after its u16 length".
pub listed_read_back : (l : Layout) → valid l ≡ true → InMemory l
    → read_run listed_cut (listed (written_pages l))
    ≡ record { refusal = 0; page = length (written_pages l); layout = blanked l }
listed_read_back = listed_written

-- "rewriting a reading gives the same bytes where they were paged by the writer's rule", as one run of bytes. What the
-- host's reading takes without a refusal is pages back to back;
pub host_pages : (s : List ℕ) → AreBytes s → (read_run host_cut s).refusal ≡ 0
    → FromPages back_to_back new_collector s (read_run host_cut s)
host_pages = host_run_pages

-- what the listing's takes is pages, each after its length;
pub listed_pages : (s : List ℕ) → AreBytes s → (read_run listed_cut s).refusal ≡ 0
    → FromPages listed new_collector s (read_run listed_cut s)
listed_pages = listed_run_pages

-- and of either, the pages of the layout that was read, in one run, are the same bytes.
pub run_again : {join : List (List ℕ) → List ℕ} (s : List ℕ) (r : Reading) (f : FromPages join new_collector s r)
    → paged_by_rule f.pages ≡ true → join (written_pages r.layout) ≡ s
run_again = run_written_again
