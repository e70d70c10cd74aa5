-- The layout with a page's components, as it is built from the places of a walk.
use Prim.Native.Nat.{ℕ, zero, suc, ◌+◌, ◌≤◌, ◌<◌}
use mathlib.Core.Path.{◌≡◌, refl, sym, ap, ◌∙◌}
use mathlib.Core.List.{List, map}
use mathlib.Core.Bool.{true, false, cond}
use native.Mathlib.Omega.{arith}
use Rattle.std.proofs.Common.{Ok, Err}
use lib.ListN.{length, take}
use Rattle.layout.specs.declared.Component.{Component}
use Rattle.layout.specs.declared.Layout.{Layout}
use Rattle.layout.specs.Records.{view}
use Rattle.layout.specs.Rules.{rule_broken}
use Rattle.layout.specs.Known.{RulesKnown}
use Rattle.page.specs.declared.Head.{Head}
use Rattle.page.specs.Form.{counted}
use Rattle.page.specs.Content.{component_at, head_of, components_of}
use Rattle.page.specs.FormLaws.{length_components}
use Rattle.page.specs.Walked.{Walked}
use Rattle.collector.specs.declared.Collector.{Collector}
use Rattle.collector.specs.declared.Answer.TheVariants.{More, Complete}
use Rattle.collector.specs.Collector.{collector_ok}
use Rattle.collector.specs.Taking.{is_next, joined, settled, content_refusal, content_in}
use Rattle.collector.specs.TakingLaws.{refused_4, refused_5, refused_rule}
use Rattle.collector.specs.Sound.{sound_facts, view_joined, kept_joined}

-- The head counts the components.
pub head_count : (s : List ℕ) → (head_of s).count ≡ counted s
unfolding head_of
head_count s = refl

-- The head that was decoded counts the components that are decoded.
pub count_is : (s : List ℕ) (h : Head) → h ≡ head_of s → h.count ≡ length (components_of s)
count_is s h e = ap (λ (x : Head). x.count) e ∙ head_count s ∙ sym (length_components s)

-- The layout that was built has the page's components after its own.
pub next_is : (s places : List ℕ) (h : Head) (l next : Layout) → Walked s places → h ≡ head_of s
    → next ≡ joined h l (map (component_at s) (take h.count places))
    → next ≡ joined (head_of s) l (components_of s)
next_is s places h l next k e f =
    let n : h.count ≡ counted s = ap (λ (x : Head). x.count) e ∙ head_count s in
    let cs : map (component_at s) (take h.count places) ≡ components_of s =
    ap (λ (m : ℕ). map (component_at s) (take m places)) n ∙ k.components in
    f ∙ ap (λ (x : List Component). joined h l x) cs ∙ ap (λ (x : Head). joined x l (components_of s)) e

-- A page of good form that was walked, taken into a collector that keeps the rules; its head was decoded as h.
module _ (c : Collector) (s places : List ℕ) (h : Head) (k : collector_ok c ≡ true) (w : Walked s places)
    (e : h ≡ head_of s) where
  -- With it there are at most 28 components, so their number fits.
  pub few_after : c.layout.count + h.count ≤ 28
  few_after = omega (arith, (sound_facts c k).few, w.few, count_is s h e, length_components s)

  -- It is refused by 4 if it is not the next,
  pub refused_unless_next : is_next c.pages c.layout.generation h ≡ false
      → record { answer = Err 4; collector = c } ≡ content_in c (head_of s) (components_of s)
  unfolding settled
  refused_unless_next f = rw (refused_4 c (head_of s) (components_of s) (rw (← e) f))

  module _ (f : is_next c.pages c.layout.generation h ≡ true) where
    is_next_page : is_next c.pages c.layout.generation (head_of s) ≡ true
    is_next_page = rw (← e) f

    -- by 5 if there would be more than 16 components,
    pub refused_over : 16 < c.layout.count + h.count
        → record { answer = Err 5; collector = c } ≡ content_in c (head_of s) (components_of s)
    unfolding settled
    refused_over b =
        rw (refused_5 c (head_of s) (components_of s) is_next_page (omega (arith, count_is s h e)))

    -- and else by the rule that the layout with its components breaks.
    module _ (room : c.layout.count + h.count ≤ 16) (long : length c.layout.components ≡ 16) (next : Layout)
        (built : next ≡ joined h c.layout (map (component_at s) (take h.count places))) where
      next_joined : next ≡ joined (head_of s) c.layout (components_of s)
      next_joined = next_is s places h c.layout next w e built

      refusal_is : content_refusal c (head_of s) (components_of s) ≡ rule_broken h.more (view next)
      refusal_is =
          let n = count_is s h e in
          let v = view_joined (head_of s) c.layout (components_of s) (omega arith) in
          refused_rule c (head_of s) (components_of s) is_next_page (omega arith) ∙ rw (next_joined, v, e)

      pub known : c.layout.complete ≡ false → RulesKnown c.layout.count next
      known o =
          rw next_joined
          (kept_joined c (head_of s) (components_of s) long (sound_facts c k) o (omega (arith, count_is s h e)))

      pub refused_by : (n : ℕ) → n ≡ rule_broken h.more (view next) → 0 < n
          → record { answer = Err n; collector = c } ≡ content_in c (head_of s) (components_of s)
      unfolding settled
      refused_by zero q z = absurd (omega arith)
      refused_by (suc n) q z = rw (refusal_is, ← q)

      pub taken : 0 ≡ rule_broken h.more (view next)
          → record {
            answer = Ok (cond h.more More Complete);
            collector =
                record { pages = c.pages + 1; layout = next };
          }
          ≡ content_in c (head_of s) (components_of s)
      unfolding settled
      taken q = rw (refusal_is, ← q, next_joined, e)
