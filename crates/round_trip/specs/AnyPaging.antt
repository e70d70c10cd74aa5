-- "The reader takes any paging": pages that are those of one layout in their order, however its components are divided
-- among them, are all taken by a new collector, and the last answers "complete", if their components together keep
-- the rules. The theorem is `any_paging`, at the end.
use Rattle.std.specs.Prelude.{ℕ, zero, suc, ◌+◌, ◌≤◌, ◌<◌, ◌≡◌, refl, List, [], ◌∷◌, ◌++◌, Bool, true, false, not, length, replicate, Ok}
use Rattle.std.proofs.Common.{sym, ap, ◌∙◌, append_assoc, append-nil, arith, zero-add, add-one, length-append, eq-eqb, ne_eqb}
use Rattle.std.proofs.lemmas.List.Edits.{sets}
use Rattle.lists.specs.Bools.{clash}
use Rattle.lists.specs.Slices.{sets_append}
use Rattle.layout.specs.declared.Component.{Component}
use Rattle.layout.specs.declared.Layout.{Layout}
use Rattle.layout.specs.Records.{no_component, pack_components, packed_as, packed}
use Rattle.layout.specs.RecordLaws.{view_pack}
use Rattle.layout.specs.Rules.{rule_broken}
use Rattle.layout.specs.Facts.{Keeps}
use Rattle.layout.specs.FactLaws.{facts_keep}
use Rattle.layout.specs.PrefixLaws.{keeps_prefix}
use Rattle.page.specs.declared.Head.{Head}
use Rattle.page.specs.Form.{page_form}
use Rattle.page.specs.Content.{head_of, components_of}
use Rattle.collector.specs.declared.Collector.{Collector}
use Rattle.collector.specs.declared.Answer.TheVariants.{Complete}
use Rattle.collector.specs.Collector.{new_collector, gathered}
use Rattle.collector.specs.Taking.{number_of, is_next, joined, accepted, content_refusal, page_refusal, settled, page_in}
use Rattle.collector.specs.TakingLaws.{refused_open, refused_content, refused_rule}
use Rattle.collector.specs.Sound.{Sound, facts_sound}
use Rattle.collector.proofs.RunLaws.{new_held}
use Rattle.round_trip.specs.Pages.{read_pages, completed, components_in, some_pages, IsPage, ArePages}
use Rattle.round_trip.specs.CompleteReading.{some_in_page}

-- Components after those of a layout whose unused places are blank give such a layout again.
joined_packed : (h : Head) (old : ℕ) (xs ys : List Component)
    → joined h (packed_as false old xs) ys ≡ packed_as (not h.more) h.generation (xs ++ ys)
unfolding pack_components
joined_packed h old xs ys =
    let stored : sets (replicate 16 no_component) 0 (xs ++ ys) ≡ sets (pack_components xs) (length xs) ys =
    sets_append (replicate 16 no_component) 0 xs ys ∙ rw zero-add in
    λ i. record {
      generation = h.generation;
      count = sym (length-append xs ys) i;
      components = sym stored i;
      complete = not h.more;
    }

-- A collector that has taken k pages with these components and waits for more.
abbrev holding : ℕ → ℕ → List Component → Collector
holding k g cs = record { pages = k; layout = packed_as false g cs }

-- One page is taken by a collector that holds the components xs: the page has its form, its number is the next, and
-- the rules hold of xs and its components together, with pages outstanding if its head says so.
page_taken : (k old : ℕ) (xs : List Component) (p : List ℕ) → Sound (holding k old xs) → page_form p ≡ true
    → is_next k old (head_of p) ≡ true → length xs + length (components_of p) ≤ 16
    → rule_broken (head_of p).more (xs ++ components_of p) ≡ 0
    → page_in (holding k old xs) p
    ≡ accepted (k + 1) (head_of p).more (packed_as (not (head_of p).more) (head_of p).generation (xs ++ components_of p))
unfolding settled
page_taken k old xs p sound form next few rules =
    let c = holding k old xs in
    let h = head_of p in
    let ys = components_of p in
    let held : gathered c ≡ xs = view_pack old xs (omega arith) in
    let content : content_refusal c h ys ≡ 0 = refused_rule c h ys next few ∙ rw held rules in
    let none : page_refusal c p ≡ 0 =
    refused_open c p (facts_sound c sound) ∙ refused_content c p refl form ∙ content in
    rw (none, joined_packed h old xs ys)

-- Refusal 4 does not apply: the page has the number that the collector waits for, and after page 0 its generation.
next_number : (k old : ℕ) (h : Head) → h.number ≡ k → (0 < k → h.generation ≡ old) → is_next k old h ≡ true
unfolding is_next
next_number zero old h e f = rw (eq-eqb h.number 0 e)
next_number (suc k) old h e f =
    rw (eq-eqb h.number (suc k) e, ne_eqb (suc k) 0 (λ z. omega arith), eq-eqb h.generation old (f (omega arith)))

-- A page that is taken is followed by the next.
read_next : (c : Collector) (p : List ℕ) (ps : List (List ℕ)) (n : ℕ) (more : Bool) (l : Layout)
    → page_in c p ≡ accepted n more l
    → read_pages c (p ∷ ps) ≡ read_pages (record { pages = n; layout = l }) ps
unfolding number_of
read_next c p ps n true l e = rw e
read_next c p ps n false l e = rw e

-- A collector that waits for more is sound if its components keep the rules with pages outstanding, are at most 16,
-- and are at least as many as the pages taken, none before page 0.
sound_holding : (k g : ℕ) (xs : List Component) → k ≤ length xs → (k ≡ 0 → length xs ≡ 0) → length xs ≤ 16
    → Keeps true xs → Sound (holding k g xs)
sound_holding k g xs h z few keeps =
    let v = view_pack g xs few in
    record {
      few = few;
      none = z;
      unfinished = λ e. refl;
      within = h;
      whole = ap length v;
      kept = rw v (facts_keep true xs keeps);
    }

-- Page k is taken by a collector that waits for it, if the components gathered and those of the page together keep
-- the rules; the pages after it are then taken by the collector that has these components.
page_then : (g k old : ℕ) (xs : List Component) (p : List ℕ) (more : Bool) → IsPage g k more p
    → Sound (holding k old xs) → (0 < k → g ≡ old) → length (xs ++ components_of p) ≤ 16
    → Keeps more (xs ++ components_of p) → (ps : List (List ℕ))
    → read_pages (holding k old xs) (p ∷ ps)
    ≡ read_pages (record { pages = k + 1; layout = packed_as (not more) g (xs ++ components_of p) }) ps
page_then g k old xs p more a sound same few keeps ps =
    let ys = components_of p in
    let h = head_of p in
    let rules : rule_broken h.more (xs ++ ys) ≡ 0 = rw a.follows (facts_keep more (xs ++ ys) keeps) in
    let next = next_number k old h a.number (λ z. a.generation ∙ same z) in
    let room = length-append xs ys in
    let t = page_taken k old xs p sound a.form next (omega arith) rules in
    read_next (holding k old xs) p ps (k + 1) h.more (packed_as (not h.more) h.generation (xs ++ ys)) t
    ∙ rw (a.follows, a.generation)

-- The pages from page k on are taken by a collector that waits for page k, and the last of them completes it. The
-- components gathered before are xs.
pages_then : (g : ℕ) (ps : List (List ℕ)) (k old : ℕ) (xs : List Component) → ArePages g k ps → some_pages ps ≡ true
    → Sound (holding k old xs) → k ≤ length xs → (0 < k → g ≡ old) → length (xs ++ components_in ps) ≤ 16
    → Keeps false (xs ++ components_in ps)
    → read_pages (holding k old xs) ps
    ≡ completed (record { pages = k + length ps; layout = packed g (xs ++ components_in ps) })
pages_then g [] k old xs a some sound h same few keeps = clash some refl
pages_then g (p ∷ []) k old xs a some sound h same few keeps =
    let e : components_of p ++ [] ≡ components_of p = append-nil (components_of p) in
    rw e (page_then g k old xs p false a.0 sound same (rw e at few) (rw e at keeps) [])
pages_then g (p ∷ q ∷ ps) k old xs a some sound h same few keeps =
    let ys = components_of p in
    let rest = components_in (q ∷ ps) in
    let e : xs ++ (ys ++ rest) ≡ (xs ++ ys) ++ rest = sym (append_assoc xs ys rest) in
    let few₂ : length ((xs ++ ys) ++ rest) ≤ 16 = rw e at few in
    let keeps₂ : Keeps false ((xs ++ ys) ++ rest) = rw e at keeps in
    let one = some_in_page p a.0.form in
    let n = length-append xs ys in
    let m = length-append (xs ++ ys) rest in
    let first = keeps_prefix false (xs ++ ys) rest keeps₂ in
    let sound₂ = sound_holding (suc k) g (xs ++ ys) (omega arith) (λ z. absurd (omega arith)) (omega arith) first in
    let q₂ : k + suc (suc (length ps)) ≡ suc k + suc (length ps) = omega arith in
    page_then g k old xs p true a.0 sound same (omega arith) first (q ∷ ps)
    ∙ rw (add-one, e, q₂)
    (pages_then g (q ∷ ps) (suc k) g (xs ++ ys) a.1 refl sound₂ (omega arith) (λ z. refl) few₂ keeps₂)

-- "The reader takes any paging". The pages `ps`, at least one, are those of one layout of generation g in their order
-- (`ArePages g 0 ps`: each has the form of a page, the number of its place, generation g, and says that pages follow it
-- exactly if it is not the last), and together they have at most 16 components, which keep the rules. How many
-- components are in each page is free: nothing asks that a page be as full as the writer makes it. Taken one after
-- another from a new collector, the pages are all taken, and the last answers "complete"; the collector then holds the
-- layout of generation g with the components of the pages, one page after the other.
pub any_paging : (g : ℕ) (ps : List (List ℕ)) → ArePages g 0 ps → some_pages ps ≡ true → length (components_in ps) ≤ 16
    → Keeps false (components_in ps)
    → read_pages new_collector ps
    ≡ record {
      answer = Ok Complete;
      collector = record { pages = length ps; layout = packed g (components_in ps) };
    }
any_paging g ps a some few keeps =
    pages_then g ps 0 0 [] a some new_held.sound (omega arith) (λ z. absurd (omega arith)) few keeps ∙ rw zero-add
