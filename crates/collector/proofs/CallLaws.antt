-- What a caller of the collector may rely on, over all collectors and all bytes.
use Rattle.std.specs.Prelude.{ℕ, zero, suc, ◌<◌, ◌≡◌, refl, List, Ok, Err, true, false, cond}
use Rattle.std.proofs.Common.{ap, arith}
use Rattle.lists.specs.Bools.{bool_cases}
use Rattle.layout.specs.declared.Component.{Component}
use Rattle.layout.specs.Records.{packed, no_layout}
use Rattle.page.specs.declared.Head.{Head}
use Rattle.page.specs.Content.{head_of, components_of}
use Rattle.collector.specs.declared.Collector.{Collector}
use Rattle.collector.specs.declared.Answer.TheVariants.{More, Complete}
use Rattle.collector.specs.Collector.{gathered, collector_ok}
use Rattle.collector.specs.Taking.{number_of, page_refusal, settled, added, page_in}
use Rattle.collector.specs.TakingLaws.{settled_number}
use Rattle.collector.specs.Giving.{layout_out}

-- What is given back under 0, and under any other number.
settled_taken : (n : ℕ) (c : Collector) (h : Head) (cs : List Component) → n ≡ 0
    → ((settled n c h cs).answer ≡ Ok (cond h.more More Complete)) × ((settled n c h cs).collector ≡ added c h cs)
unfolding settled
settled_taken zero c h cs e = (refl, refl)
settled_taken (suc n) c h cs e = absurd (omega arith)

settled_kept : (n : ℕ) (c : Collector) (h : Head) (cs : List Component) → 0 < n
    → ((settled n c h cs).answer ≡ Err n) × ((settled n c h cs).collector ≡ c)
unfolding settled
settled_kept zero c h cs e = absurd (omega arith)
settled_kept (suc n) c h cs e = (refl, refl)

-- If the answer is "more wanted", the page said so.
settled_more : (n : ℕ) (c : Collector) (h : Head) (cs : List Component) → (settled n c h cs).answer ≡ Ok More
    → (settled n c h cs).collector.layout.complete ≡ false
unfolding settled
settled_more zero c h cs e = bool_cases h.more (λ m. rw m) (λ m. let x : Ok Complete ≡ Ok More = rw m at e in cc)
settled_more (suc n) c h cs e = cc

module _ (c : Collector) (s : List ℕ) where
  -- The answer's number is that of the definition.
  pub answer_number_lem : number_of (page_in c s).answer ≡ page_refusal c s
  answer_number_lem = settled_number (page_refusal c s) c (head_of s) (components_of s)

  -- A page that is taken answers by its own flag, "more wanted" or "complete", and its components are after those
  -- gathered.
  pub taken_answer : page_refusal c s ≡ 0 → (page_in c s).answer ≡ Ok (cond (head_of s).more More Complete)
  taken_answer e = (settled_taken (page_refusal c s) c (head_of s) (components_of s) e).0

  pub taken_collector : page_refusal c s ≡ 0 → (page_in c s).collector ≡ added c (head_of s) (components_of s)
  taken_collector e = (settled_taken (page_refusal c s) c (head_of s) (components_of s) e).1

  -- A page that is refused answers with its number, and leaves the collector as it was,
  pub refused_answer : 0 < page_refusal c s → (page_in c s).answer ≡ Err (page_refusal c s)
  refused_answer h = (settled_kept (page_refusal c s) c (head_of s) (components_of s) h).0

  pub refused_collector : 0 < page_refusal c s → (page_in c s).collector ≡ c
  refused_collector h = (settled_kept (page_refusal c s) c (head_of s) (components_of s) h).1

  -- so the right page is taken afterwards as before: "A page that is refused may be sent again."
  pub refused_again : 0 < page_refusal c s → (p : List ℕ) → page_in (page_in c s).collector p ≡ page_in c p
  refused_again h p = ap (λ (d : Collector). page_in d p) (refused_collector h)

  -- After the answer "more wanted", pages are outstanding,
  pub more_outstanding : (page_in c s).answer ≡ Ok More → (page_in c s).collector.layout.complete ≡ false
  more_outstanding e = settled_more (page_refusal c s) c (head_of s) (components_of s) e

-- and a collector with pages outstanding never gives a layout.
pub outstanding_none : (c : Collector) → c.layout.complete ≡ false
    → layout_out c ≡ record { refusal = 1; layout = no_layout }
unfolding layout_out
outstanding_none c e = bool_cases (collector_ok c) (λ k. rw (k, e)) (λ k. rw k)

-- One that is complete and keeps the rules gives the layout of its generation and the components that were gathered.
pub complete_given : (c : Collector) → collector_ok c ≡ true → c.layout.complete ≡ true
    → layout_out c ≡ record { refusal = 0; layout = packed c.layout.generation (gathered c) }
unfolding layout_out
complete_given c k e = rw (k, e)
