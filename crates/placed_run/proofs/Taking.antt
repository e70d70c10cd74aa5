-- What a page call in place gives, after a walk over the page.
use Rattle.std.specs.Prelude.{ℕ, ◌+◌, ◌≤◌, ◌<◌, min, ◌≡◌, refl, List, Option, Some, None, Bool, true, false, length}
use Rattle.std.specs.Prelude.{take, drop}
use Rattle.std.proofs.Common.{sym, ap, subst, ◌∙◌, arith, length-drop, length-take, get_or-take, get_or-drop}
use Rattle.std.proofs.lemmas.List.Edits.{sets}
use Rattle.std.proofs.Math.Seq.{slice}
use Rattle.page.specs.declared.Head.{Head}
use Rattle.page.specs.Form.{counted, page_places, page_end, form_by, end_if}
use Rattle.page.specs.Content.{head_of}
use Rattle.page.specs.FormLaws.{page_within}
use Rattle.page.specs.Walked.{Walks}
use Rattle.collector.specs.Taking.{is_next}
use Rattle.in_place.specs.Places.{components_at, Within}
use Rattle.in_place.specs.Joining.{new_rule_broken}
use Rattle.placed_run.specs.declared.Progress.{Progress}
use Rattle.placed_run.specs.Placing.{next_refusal, placed_next}
use Rattle.placed_run.specs.Progress.{placed_of, InRange}
use Rattle.placed_run.proofs.PlacingLaws.{next_taken}
use Rattle.placed_run.proofs.NextLaws.{next_1, next_3, next_4, next_5, next_rule, kept_refused, says_refused}
use Rattle.placed_run.proofs.NextLaws.{whole_head, all_places, new_places, all_within, kept_taken}

-- What a call gives: the reading after the next page, and what is known of it.
abbrev pub Gives : List ℕ → Progress → List ℕ → ℕ → Progress → List ℕ → Type 0
Gives s p places n q after = (placed_of n q after ≡ placed_next s (placed_of 0 p places)) × InRange s q after

-- A page ends where it ends if it has its form.
chosen : (b : Bool) (r n : ℕ) → Some r ≡ end_if b n → (b ≡ true) × (r ≡ n)
chosen true r n e = (refl, cc)
chosen false r n e = absurd cc

not_chosen : (b : Bool) (n : ℕ) → None ≡ end_if b n → b ≡ false
not_chosen true n e = absurd cc
not_chosen false n e = refl

-- The numbers after a page with this head that takes r bytes.
abbrev taken : Progress → Head → ℕ → Progress
taken p head r =
    record {
      at = p.at + r;
      pages = p.pages + 1;
      generation = head.generation;
      more = head.more;
      count = p.count + head.count;
    }

-- No bytes are left.
pub gives_1 : (s : List ℕ) (p : Progress) (places : List ℕ) → InRange s p places → length s ≤ p.at
    → Gives s p places 1 p places
gives_1 s p places k h = (
  says_refused s p places k places refl k.room 1 (next_1 s p places k h) (omega arith),
  kept_refused s p places k places refl k.room,
)

-- The bytes that are left.
abbrev rest : List ℕ → Progress → List ℕ
rest s p = drop p.at s

-- Some bytes are left, and the page that they begin with was walked over; r is what the walk gave.
pub record Walk (s : List ℕ) (p : Progress) (places after : List ℕ) (r : Option ℕ) : Type 0 where
  pub known : InRange s p places
  pub some : p.at < length s
  pub walks : Walks (min 512 (length (rest s p))) (rest s p) p.at p.count places after r

-- The page has its form, and this is its head.
pub record Page (s : List ℕ) (p : Progress) (places after : List ℕ) (r : ℕ) (head : Head) : Type 0 where
  pub walk : Walk s p places after (Some r)
  pub is : head ≡ head_of (rest s p)

-- It is the next page, and there are at most 16 components with it.
pub record Joins (s : List ℕ) (p : Progress) (places after : List ℕ) (r : ℕ) (head : Head) : Type 0 where
  pub page : Page s p places after r head
  pub next : is_next p.pages p.generation head ≡ true
  pub few : p.count + head.count ≤ 16

module _ {s : List ℕ} {p : Progress} {places after : List ℕ} {r : Option ℕ} (w : Walk s p places after r) where
  refuses : (n : ℕ) → next_refusal s (placed_of 0 p places) ≡ n → 0 < n → Gives s p places n p after
  refuses n e z =
      let room = w.walks.2 ∙ w.known.room in
      (says_refused s p places w.known after w.walks.1 room n e z, kept_refused s p places w.known after w.walks.1 room)

  -- The page does not have its form.
  pub gives_3 : r ≡ None → Gives s p places 3 p after
  gives_3 z =
      let f = not_chosen (form_by (min 512 (length (rest s p))) (rest s p)) (page_end (rest s p)) (sym z ∙ w.walks.0) in
      refuses 3 (next_3 s p places w.known w.some f) (omega arith)

module _ {s : List ℕ} {p : Progress} {places after : List ℕ} {r : ℕ} (w : Walk s p places after (Some r)) where
  formed : form_by (min 512 (length (rest s p))) (rest s p) ≡ true
  formed = (chosen (form_by (min 512 (length (rest s p))) (rest s p)) r (page_end (rest s p)) w.walks.0).0

  ended : r ≡ page_end (rest s p)
  ended = (chosen (form_by (min 512 (length (rest s p))) (rest s p)) r (page_end (rest s p)) w.walks.0).1

  pub has_head : p.at + 16 ≤ length s
  has_head = whole_head s p places w.known formed

  pub ends_by : p.at + r ≤ length s
  ends_by =
      omega (
        arith,
        ended,
        page_within (min 512 (length (rest s p))) (rest s p) formed,
        length-drop p.at s,
        w.known.reached,
      )

module _ {s : List ℕ} {p : Progress} {places after : List ℕ} {r : ℕ} {head : Head} (x : Page s p places after r head)
  where
    counts : head.count ≡ counted (rest s p)
    unfolding head_of
    counts = ap (λ (h : Head). h.count) x.is

    -- It is not the next.
    pub gives_4 : is_next p.pages p.generation head ≡ false → Gives s p places 4 p after
    gives_4 i =
        let w = x.walk in
        refuses w 4 (next_4 s p places w.known w.some (formed w) (rw x.is at i)) (omega arith)

    -- There would be more than 16 components.
    pub gives_5 : is_next p.pages p.generation head ≡ true → 16 < p.count + head.count
        → Gives s p places 5 p after
    gives_5 i l =
        let w = x.walk in
        refuses w 5
        (next_5 s p places w.known w.some (formed w) (rw x.is at i) (omega (arith, counts)))
        (omega arith)

module _ {s : List ℕ} {p : Progress} {places after : List ℕ} {r : ℕ} {head : Head} (j : Joins s p places after r head)
  where
    form : form_by (min 512 (length (rest s p))) (rest s p) ≡ true
    form = formed j.page.walk

    fits : p.count + counted (rest s p) ≤ 16
    fits = omega (arith, counts j.page, j.few)

    stored : after ≡ sets places p.count (page_places p.at (rest s p))
    stored = j.page.walk.walks.3 form

    -- All components end by the end of the bytes.
    pub ends_within : Within s (p.count + head.count) after
    ends_within = rw (counts j.page, stored) (all_within s p places j.page.walk.known form fits)

    -- What is asked of the components at the new places is the number of the page.
    asked : new_rule_broken head.more (components_at s (take p.count after))
        (components_at s (slice p.count (p.count + head.count) after))
        ≡ next_refusal s (placed_of 0 p places)
    asked =
        let new : slice p.count (p.count + head.count) after ≡ page_places p.at (rest s p) =
        rw (counts j.page, stored) (new_places s p places j.page.walk.known form fits) in
        rw (j.page.walk.walks.1, new, j.page.is)
        (sym (next_rule s p places j.page.walk.known j.page.walk.some form (rw j.page.is at j.next) fits))

    module _ (rule : ℕ) (o : rule ≡ new_rule_broken head.more (components_at s (take p.count after))
        (components_at s (slice p.count (p.count + head.count) after))) where
      -- They break a rule.
      pub gives_rule : 0 < rule → Gives s p places rule p after
      gives_rule z = refuses j.page.walk rule (sym (o ∙ asked)) z

      -- The page is taken.
      pub gives_page : rule ≡ 0 → Gives s p places 0 (taken p head r) after
      gives_page z =
          let end = ended j.page.walk in
          let n = counts j.page in
          let all = all_places s p places j.page.walk.known form fits in (
            rw (next_taken s (placed_of 0 p places) (sym (o ∙ asked) ∙ z), end, n, stored, all, j.page.is),
            subst (InRange s (taken p head r)) (sym stored)
                (kept_taken s p places j.page.walk.known form fits (taken p head r) (ap (λ (x : ℕ). p.at + x) end) refl
                (ap (λ (x : ℕ). p.count + x) n)),
          )

-- What holds of all places holds of the first of them and of the rest.
module _ (s ps : List ℕ) (n m : ℕ) (h : n ≤ m) (w : Within s m ps) where
  pub within_front : Within s (length (take n (take m ps))) (take n (take m ps))
  within_front i k =
      let i-n : i < n = omega (arith, length-take n (take m ps)) in
      rw (get_or-take n (take m ps) i 0 i-n, get_or-take m ps i 0 (omega arith)) (w i (omega arith))

  pub within_back : Within s (length (drop n (take m ps))) (drop n (take m ps))
  within_back i k =
      let i-m : n + i < m = omega (arith, length-drop n (take m ps), length-take m ps) in
      rw (get_or-drop, get_or-take m ps (n + i) 0 i-m) (w (n + i) i-m)
