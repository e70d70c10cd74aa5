-- What a collector with pages outstanding has gathered is refused by every call that takes a layout.
use Rattle.std.specs.Prelude.{ℕ, ◌≡◌, Result, Ok, Err, false}
use Rattle.std.proofs.Common.{ap, ◌∙◌}
use Rattle.layout.specs.declared.Layout.{Layout}
use Rattle.layout.specs.Records.{no_layout}
use Rattle.layout.specs.Rules.{valid}
use Rattle.collector.specs.declared.Collector.{Collector}
use Rattle.collector.specs.Giving.{layout_out}
use Rattle.collector.proofs.CallLaws.{outstanding_none}
use Rattle.refusals.specs.declared.Refusal.{Refusal}
use Rattle.refusals.specs.declared.Refusal.TheVariants.{NotValid}
use Rattle.refusals.specs.Numbered.{numbered}
use Rattle.paging.specs.Paging.{written_page, out_refusal, out_answer}
use Rattle.mapping.specs.declared.ObjectHome.{ObjectHome}
use Rattle.mapping.specs.Answers.{refuses, answer_number}
use Rattle.mapping.specs.AnswerLaws.{gives_or_refuses}
use Rattle.mapping.specs.Homes.{Home}
use Rattle.mapping.specs.Lookup.{lookup_says, lookup_of}
use Rattle.mapping.specs.Back.{back_says, back_of}
use Rattle.mapping.specs.Cutting.{cut_says, cut_of}
use Rattle.growth_rules.specs.Steps.{Call}
use Rattle.growth_rules.specs.Growing.{grow_of}
use Rattle.growth_rules.specs.CallFacts.{Leaves}
use Rattle.growth_rules.proofs.CallLaws.{refusal_leaves}
use Rattle.growth.specs.declared.Effect.{Effect}
use Rattle.moorsickle.specs.Answers.{grow_says}
use Rattle.promises.specs.RefusalNumbers.{same_number}

-- An answer that says a refusal by 1 is the refusal of that number.
lookup_one : (r : Result ObjectHome Refusal) → lookup_says r ≡ refuses 1 → r ≡ Err NotValid
unfolding lookup_says
lookup_one (Ok h) e = absurd (gives_or_refuses _ 1 e)
lookup_one (Err e) q = ap Err (same_number e NotValid (ap answer_number q))

back_one : (r : Result ℕ Refusal) → back_says r ≡ refuses 1 → r ≡ Err NotValid
unfolding back_says
back_one (Ok b) e = absurd (gives_or_refuses b 1 e)
back_one (Err e) q = ap Err (same_number e NotValid (ap answer_number q))

cut_one : (r : Result ℕ Refusal) → cut_says r ≡ refuses 1 → r ≡ Err NotValid
unfolding cut_says
cut_one (Ok n) e = absurd (gives_or_refuses n 1 e)
cut_one (Err e) q = ap Err (same_number e NotValid (ap answer_number q))

page_one : (r : Result ℕ Refusal) → numbered r ≡ Err 1 → r ≡ Err NotValid
page_one (Ok n) e = cc
page_one (Err e) q = ap Err (same_number e NotValid cc)

grow_one : (r : Result Effect Refusal) → grow_says r ≡ refuses 1 → r ≡ Err NotValid
grow_one (Ok e) q = absurd (gives_or_refuses _ 1 q)
grow_one (Err e) q = ap Err (same_number e NotValid (ap answer_number q))

-- A layout that is not complete is not valid.
pub not_valid : (l : Layout) → l.complete ≡ false → valid l ≡ false
unfolding valid
not_valid l e = rw e

-- Every call refuses a layout that is not valid by 1.
module _ (l : Layout) (v : valid l ≡ false) where
  lookup_refuses : (b : ℕ) → lookup_of b l ≡ refuses 1
  unfolding lookup_of
  lookup_refuses b = rw v

  back_refuses : (h : Home) → back_of h l ≡ refuses 1
  unfolding back_of
  back_refuses h = rw v

  cut_refuses : (a m n : ℕ) → cut_of a m n l ≡ refuses 1
  unfolding cut_of
  cut_refuses a m n = rw v

  pub page_refuses : (k n : ℕ) → out_answer (out_refusal l k n) (written_page l k) ≡ Err 1
  unfolding out_answer out_refusal
  page_refuses k n = rw v

  grow_refuses : (k : Call) → (grow_of l k).answer ≡ refuses 1
  unfolding grow_of
  grow_refuses k = rw v

-- Whatever a collector with pages outstanding has gathered, every call that takes a layout refuses it by 1, and the
-- collector gives no layout.
pub refused : (c : Collector) → c.layout.complete ≡ false
    → ((b : ℕ) (r : Result ObjectHome Refusal) → lookup_says r ≡ lookup_of b c.layout → r ≡ Err NotValid)
    × ((h : Home) (r : Result ℕ Refusal) → back_says r ≡ back_of h c.layout → r ≡ Err NotValid)
    × ((a m room : ℕ) (r : Result ℕ Refusal) → cut_says r ≡ cut_of a m room c.layout → r ≡ Err NotValid)
    × ((k room : ℕ) (r : Result ℕ Refusal)
    → numbered r ≡ out_answer (out_refusal c.layout k room) (written_page c.layout k) → r ≡ Err NotValid)
    × ((k : Call) (r : Result Effect Refusal) → grow_says r ≡ (grow_of c.layout k).answer
    → (r ≡ Err NotValid) × Leaves c.layout k (grow_of c.layout k))
    × (layout_out c ≡ record { refusal = 1; layout = no_layout })
refused c e =
    let l = c.layout in
    let v = not_valid l e in (
      λ b r q. lookup_one r (q ∙ lookup_refuses l v b),
      λ h r q. back_one r (q ∙ back_refuses l v h),
      λ a m n r q. cut_one r (q ∙ cut_refuses l v a m n),
      λ k n r q. page_one r (q ∙ page_refuses l v k n),
      λ k r q. let g = grow_refuses l v k in (grow_one r (q ∙ g), refusal_leaves l k 1 g),
      outstanding_none c e,
    )
