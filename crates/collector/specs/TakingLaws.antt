-- Laws of taking a page: which number is given when, and what is given back under it.
use Rattle.std.specs.Prelude.{ℕ, zero, suc, ◌+◌, ◌≤◌, ◌<◌, ◌≡◌, refl, List, ◌++◌, Err, Bool, true, false}
use Rattle.std.proofs.Common.{arith}
use Rattle.std.proofs.Math.ListN.{length}
use borrow.Author.Tests.{le-leb, lt-leb}
use Rattle.layout.specs.declared.Component.{Component}
use Rattle.layout.specs.declared.Layout.{Layout}
use Rattle.layout.specs.Rules.{rule_broken}
use Rattle.page.specs.declared.Head.{Head}
use Rattle.page.specs.Form.{page_form}
use Rattle.page.specs.Content.{head_of, components_of}
use Rattle.collector.specs.declared.Collector.{Collector}
use Rattle.collector.specs.Collector.{gathered, collector_ok}
use Rattle.collector.specs.Taking.{number_of, is_next, joined, accepted, settled}
use Rattle.collector.specs.Taking.{content_refusal, open_refusal, page_refusal}

-- Under the number of a refusal the collector is given back as it was, with that number.
pub settled_refused : (n : ℕ) (c : Collector) (h : Head) (cs : List Component) → 0 < n
    → record { answer = Err n; collector = c } ≡ settled n c h cs
unfolding settled
settled_refused zero c h cs z = absurd (omega arith)
settled_refused (suc n) c h cs z = refl

-- An accepted page answers with no number.
accepted_number : (pages : ℕ) (more : Bool) (l : Layout) → number_of (accepted pages more l).answer ≡ 0
unfolding number_of
accepted_number pages more l = refl

-- The answer means the number of the refusal, or 0.
pub settled_number : (n : ℕ) (c : Collector) (h : Head) (cs : List Component) → number_of (settled n c h cs).answer ≡ n
unfolding settled number_of
settled_number zero c h cs = accepted_number (c.pages + 1) h.more (joined h c.layout cs)
settled_number (suc n) c h cs = refl

-- What a page of good form is refused by: 4 if it is not the next,
module _ (c : Collector) (h : Head) (cs : List Component) where
  pub refused_4 : is_next c.pages c.layout.generation h ≡ false → content_refusal c h cs ≡ 4
  unfolding content_refusal
  refused_4 e = rw e

  module _ (e : is_next c.pages c.layout.generation h ≡ true) where
    -- 5 if there would be more than 16 components,
    pub refused_5 : 16 < c.layout.count + length cs → content_refusal c h cs ≡ 5
    unfolding content_refusal
    refused_5 k = rw (e, lt-leb (c.layout.count + length cs) 16 k)

    -- and else by the component rule that the gathered and the new components break, if any.
    pub refused_rule : c.layout.count + length cs ≤ 16
        → content_refusal c h cs ≡ rule_broken h.more (gathered c ++ cs)
    unfolding content_refusal
    refused_rule k = rw (e, le-leb (c.layout.count + length cs) 16 k)

-- What a page is refused by if the collector keeps the rules: 2 if it is complete, 3 if the bytes are not a
-- page, and else by what the page says.
module _ (c : Collector) (s : List ℕ) where
  pub refused_2 : c.layout.complete ≡ true → open_refusal c s ≡ 2
  unfolding open_refusal
  refused_2 e = rw e

  pub refused_3 : c.layout.complete ≡ false → page_form s ≡ false → open_refusal c s ≡ 3
  unfolding open_refusal
  refused_3 e f = rw (e, f)

  pub refused_content : c.layout.complete ≡ false → page_form s ≡ true
      → open_refusal c s ≡ content_refusal c (head_of s) (components_of s)
  unfolding open_refusal
  refused_content e f = rw (e, f)

  -- A page is refused by 1 if the collector breaks the rules, and else by what a collector that keeps them gives.
  pub refused_1 : collector_ok c ≡ false → page_refusal c s ≡ 1
  unfolding page_refusal
  refused_1 e = rw e

  pub refused_open : collector_ok c ≡ true → page_refusal c s ≡ open_refusal c s
  unfolding page_refusal
  refused_open e = rw e
