-- A page is taken into a collector: the number of the refusal, or the collector with the page.
use Rattle.std.specs.Prelude.{ℕ, zero, suc, ◌+◌, List, ◌++◌, Result, Ok, Err, Bool, not, cond, ◌&&◌, ◌||◌, eqb, leb, length}
use Rattle.std.proofs.lemmas.List.Edits.{sets}
use Rattle.refusals.specs.declared.Refusal.{Refusal}
use Rattle.refusals.specs.Numbered.{numbered}
use Rattle.layout.specs.declared.Component.{Component}
use Rattle.layout.specs.declared.Layout.{Layout}
use Rattle.layout.specs.Rules.{rule_broken}
use Rattle.page.specs.declared.Head.{Head}
use Rattle.page.specs.Form.{page_form}
use Rattle.page.specs.Content.{head_of, components_of}
use Rattle.collector.specs.declared.Collector.{Collector}
use Rattle.collector.specs.declared.Answer.{Answer}
use Rattle.collector.specs.declared.Answer.TheVariants.{More, Complete}
use Rattle.collector.specs.Collector.{gathered, collector_ok}

-- What a page call gives: the answer, a refusal by its number, and the collector afterwards.
pub record Taken : Type 0 where
  pub answer : Result Answer ℕ
  pub collector : Collector

-- What the code's call gives: its answer, and what is then in the lent collector.
abbrev pub take_says : Result Answer Refusal → Collector → Taken
take_says r c = record { answer = numbered r; collector = c }

-- The number that an answer means: that of the refusal, and 0 if the page was taken.
unfoldable pub number_of : Result Answer ℕ → ℕ
number_of (Ok a) = 0
number_of (Err n) = n

-- Refusal 4 does not apply: the page number is the next, and the generation that of page 0.
unfoldable pub is_next : ℕ → ℕ → Head → Bool
is_next pages generation h = eqb h.number pages && (eqb pages 0 || eqb h.generation generation)

-- A layout with the components of a page after its own. Its generation is what the page's head says, and it is complete
-- unless the head says that more pages follow. What is after the components in the array stays.
abbrev pub joined : Head → Layout → List Component → Layout
joined h l cs =
    record {
      generation = h.generation;
      count = l.count + length cs;
      components = sets l.components l.count cs;
      complete = not h.more;
    }

-- The collector with a page.
abbrev pub added : Collector → Head → List Component → Collector
added c h cs = record { pages = c.pages + 1; layout = joined h c.layout cs }

-- "An accepted page answers "more wanted" or "complete"", by the page's flag.
abbrev pub accepted : ℕ → Bool → Layout → Taken
accepted pages more l =
    record {
      answer = Ok (cond more More Complete);
      collector = record { pages = pages; layout = l };
    }

-- The number of the refusal of a page of good form by what it says, 4 to 8, or 0. "Numbers 6 to 8 are asked once 3 to 5
-- don't apply, over the gathered and new components together", with pages outstanding if the page's flag says so.
unfoldable pub content_refusal : Collector → Head → List Component → ℕ
content_refusal c h cs =
    cond (is_next c.pages c.layout.generation h)
    (cond (leb (c.layout.count + length cs) 16)
    (rule_broken h.more (gathered c ++ cs))
    5)
    4

-- The number of the refusal of a page by a collector that keeps the rules, 2 to 8, or 0.
unfoldable pub open_refusal : Collector → List ℕ → ℕ
open_refusal c s = cond c.layout.complete 2 (cond (page_form s) (content_refusal c (head_of s) (components_of s)) 3)

-- The number of the refusal of a page, or 0: the first in the order in which the call asks them whose condition holds.
unfoldable pub page_refusal : Collector → List ℕ → ℕ
page_refusal c s = cond (collector_ok c) (open_refusal c s) 1

-- What is given back under the number of a refusal, or under 0: the collector as it was and that number; or the
-- collector with the page, and "more wanted" or "complete" by the page's flag.
unfoldable pub settled : ℕ → Collector → Head → List Component → Taken
settled zero c h cs = accepted (c.pages + 1) h.more (joined h c.layout cs)
settled (suc n) c h cs = record { answer = Err (suc n); collector = c }

-- What taking a page of good form gives, by what it says.
abbrev pub content_in : Collector → Head → List Component → Taken
content_in c h cs = settled (content_refusal c h cs) c h cs

-- What taking a page gives if the collector keeps the rules.
abbrev pub open_in : Collector → List ℕ → Taken
open_in c s = settled (open_refusal c s) c (head_of s) (components_of s)

-- What taking a page gives.
abbrev pub page_in : Collector → List ℕ → Taken
page_in c s = settled (page_refusal c s) c (head_of s) (components_of s)
