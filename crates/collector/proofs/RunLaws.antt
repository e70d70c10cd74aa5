-- Laws of reading a run, for a collector that keeps the rules: what the reading is by what is next.
use Rattle.std.specs.Prelude.{ℕ, zero, suc, ◌+◌, ◌-◌, ◌≤◌, ◌<◌, ◌≡◌, refl, List, [], ◌∷◌, Bool, true, false, cond, eqb}
use Rattle.std.specs.Prelude.{length}
use Rattle.std.specs.Result.{MatchResult}
use Rattle.std.proofs.Common.{Result, Ok, Err, sym, subst, ◌∙◌, arith, eqb-true, eq-eqb, ne_eqb}
use Rattle.std.proofs.Math.Path.{ap}
use Rattle.std.proofs.Math.Seq.{length-sets}
use Rattle.lists.specs.Bools.{bool_cases}
use Rattle.layout.specs.Records.{pack_components}
use Rattle.layout.specs.Neighbours.{neighbours_hold}
use Rattle.layout.specs.Distinct.{distinct_hold}
use Rattle.layout.specs.Rules.{rule_broken}
use Rattle.page.specs.Form.{page_form}
use Rattle.page.specs.Content.{head_of, components_of}
use Rattle.page.specs.FormLaws.{length_components, some_components, page_by}
use Rattle.refusals.specs.declared.Refusal.{Refusal}
use Rattle.collector.specs.declared.Collector.{Collector}
use Rattle.collector.specs.declared.run.RefusedPage.{RefusedPage}
use Rattle.collector.specs.Collector.{new_collector}
use Rattle.refusals.specs.Refusals.{number_of as refusal_number, number_pos}
use Rattle.collector.specs.declared.Answer.{Answer}
use Rattle.collector.specs.Taking.{Taken, take_says, number_of, added, content_refusal, open_refusal, settled, open_in}
use Rattle.collector.specs.Taking.{page_in}
use Rattle.collector.specs.TakingLaws.{settled_number, refused_open, refused_2, refused_3, refused_content}
use Rattle.collector.specs.Sound.{Sound, facts_sound, sound_added}
use Rattle.std.specs.Borrow.{Bor}
use Rattle.collector.specs.Reads.{next_answer, cut_says}
use Rattle.collector.specs.Runs.{Next, Reading, ended, broken, next, refused_at, closed, following, read_on, read_run}

-- A collector as a reading has it: it keeps the rules, and its array has 16 places.
pub record Held (c : Collector) : Type 0 where
  pub sound : Sound c
  pub places : length c.layout.components ≡ 16

-- What a reading gives from a collector on.
abbrev pub read_from : (List ℕ → Next) → Collector → List ℕ → Reading
read_from cut c s = read_on cut (17 - c.pages) c s

-- A page that is refused by no number is a page, and what it says is refused by no number.
pub open_taken : (c : Collector) (p : List ℕ) → open_refusal c p ≡ 0
    → (c.layout.complete ≡ false) × (page_form p ≡ true) × (content_refusal c (head_of p) (components_of p) ≡ 0)
open_taken c p e =
    bool_cases c.layout.complete
    (λ x. absurd (omega (arith, refused_2 c p x)))
    (λ x. bool_cases (page_form p)
    (λ y. (x, y, sym (refused_content c p x y) ∙ e))
    (λ y. absurd (omega (arith, refused_3 c p x y))))

-- If no page is cut off, the reading ends with the number that this gives.
unless_next : (on : Collector → List ℕ → Reading) (c : Collector) (n : Next) (k : ℕ) → Err k ≡ next_answer n
    → following on c n ≡ refused_at k c.pages
unless_next on c ended k e = let z : k ≡ 1 = cc in rw z
unless_next on c broken k e = let z : k ≡ 3 = cc in rw z
unless_next on c (next p rest) k e = absurd (cc)

-- A page that is cut off comes next.
pub next_given : (n : Next) (p rest : List ℕ) → Ok (p, rest) ≡ next_answer n → n ≡ next p rest
next_given ended p rest e = absurd (cc)
next_given broken p rest e = absurd (cc)
next_given (next q r) p rest e =
    let x : q ≡ p = ap (λ (a : Result (List ℕ × List ℕ) ℕ). elim a [ Ok y ↦ y.0 | Err n ↦ q ]) (sym e) in
    let y : r ≡ rest = ap (λ (a : Result (List ℕ × List ℕ) ℕ). elim a [ Ok y ↦ y.1 | Err n ↦ r ]) (sym e) in
    rw (x, y)

module _ (c : Collector) (h : Held c) where
  -- A collector that keeps the rules has taken at most 16 pages.
  left : 17 - c.pages ≡ suc (16 - c.pages)
  left = omega (arith, h.sound.within, h.sound.few)

  -- The page call asks no more of a collector that keeps the rules.
  pub page_open : (p : List ℕ) → page_in c p ≡ open_in c p
  page_open p = ap (λ (n : ℕ). settled n c (head_of p) (components_of p)) (refused_open c p (facts_sound c h.sound))

  -- The collector with a page that was taken.
  module _ (p : List ℕ) (e : number_of (open_in c p).answer ≡ 0) where
    refusal : open_refusal c p ≡ 0
    refusal = sym (settled_number (open_refusal c p) c (head_of p) (components_of p)) ∙ e

    pub taken_is : (open_in c p).collector ≡ added c (head_of p) (components_of p)
    unfolding settled
    taken_is = ap (λ (n : ℕ). (settled n c (head_of p) (components_of p)).collector) refusal

    pub taken_held : Held (open_in c p).collector
    taken_held =
        let t = open_taken c p refusal in
        let some : 1 ≤ length (components_of p) =
        omega (arith, length_components p, some_components (length p) p (page_by p t.1)) in
        let k : Held (added c (head_of p) (components_of p)) =
        record {
          sound = sound_added c (head_of p) (components_of p) h.places some h.sound t.2;
          places = length-sets c.layout.components c.layout.count (components_of p) ∙ h.places;
        } in
        subst Held (sym taken_is) k

    pub taken_pages : (open_in c p).collector.pages ≡ c.pages + 1
    taken_pages = ap (λ (x : Collector). x.pages) taken_is

  module _ (cut : List ℕ → Next) (s : List ℕ) where
    -- Complete: the reading is closed.
    pub read_closed : c.layout.complete ≡ true → read_from cut c s ≡ closed c s
    read_closed e = rw (left, e)

    -- Not complete: by what is next.
    module _ (e : c.layout.complete ≡ false) where
      read_next : read_from cut c s ≡ following (read_on cut (16 - c.pages)) c (cut s)
      read_next = rw (left, e)

      pub read_ended : cut s ≡ ended → read_from cut c s ≡ refused_at 1 c.pages
      read_ended n = read_next ∙ ap (following (read_on cut (16 - c.pages)) c) n

      pub read_broken : cut s ≡ broken → read_from cut c s ≡ refused_at 3 c.pages
      read_broken n = read_next ∙ ap (following (read_on cut (16 - c.pages)) c) n

      -- No page is cut off.
      pub read_unless : (k : ℕ) → Err k ≡ next_answer (cut s) → read_from cut c s ≡ refused_at k c.pages
      read_unless k e = read_next ∙ unless_next (read_on cut (16 - c.pages)) c (cut s) k e

      module _ (p rest : List ℕ) (n : cut s ≡ next p rest) where
        pub read_refused : (k : ℕ) → number_of (open_in c p).answer ≡ k → 0 < k
            → read_from cut c s ≡ refused_at k c.pages
        read_refused k f z =
            let m = number_of (open_in c p).answer in
            let x : eqb m 0 ≡ false = ne_eqb m 0 (λ q. omega arith) in
            read_next ∙ ap (following (read_on cut (16 - c.pages)) c) n ∙ rw (page_open p, x, f)

        pub read_taken : number_of (open_in c p).answer ≡ 0
            → read_from cut c s ≡ read_from cut (open_in c p).collector rest
        read_taken f =
            let x : eqb (number_of (open_in c p).answer) 0 ≡ true = eq-eqb (number_of (open_in c p).answer) 0 f in
            let l : 16 - c.pages ≡ 17 - (open_in c p).collector.pages = omega (arith, taken_pages p f) in
            read_next ∙ ap (following (read_on cut (16 - c.pages)) c) n
            ∙ rw (page_open p, x) (ap (λ (m : ℕ). read_on cut m (open_in c p).collector rest) l)

-- What the call gives that takes the page which comes next: the reading ends, or goes on.
module _ (c : Collector) (h : Held c) (cut : List ℕ → Next) (s : List ℕ) (e : c.layout.complete ≡ false)
    (p rest : List ℕ) (n : Ok (p, rest) ≡ next_answer (cut s)) (r : Result Answer Refusal) (d : Collector)
    (t : take_says r d ≡ open_in c p) where
  page_next : cut s ≡ next p rest
  page_next = next_given (cut s) p rest n

  is_collector : d ≡ (open_in c p).collector
  is_collector = ap (λ (x : Taken). x.collector) t

  pub ends_refused : (f : Refusal) → r ≡ Err f → read_from cut c s ≡ refused_at (refusal_number f) c.pages
  unfolding number_of
  ends_refused f q =
      let k : number_of (open_in c p).answer ≡ refusal_number f = ap (λ (x : Taken). number_of x.answer) (sym t)
      ∙ rw q in
      read_refused c h cut s e p rest page_next (refusal_number f) k (number_pos f)

  module _ (a : Answer) (q : r ≡ Ok a) where
    no_number : number_of (open_in c p).answer ≡ 0
    unfolding number_of
    no_number = ap (λ (x : Taken). number_of x.answer) (sym t) ∙ rw q

    pub goes_on_held : Held d
    goes_on_held = rw is_collector (taken_held c h p no_number)

    pub goes_on_pages : d.pages ≡ c.pages + 1
    goes_on_pages = rw is_collector (taken_pages c h p no_number)

    pub goes_on : read_from cut c s ≡ read_from cut d rest
    goes_on = rw is_collector (read_taken c h cut s e p rest page_next no_number)

-- The pages that may still come, n of them, never run out before the collector is complete or a page is refused.
module _ (cut : List ℕ → Next) where
  on_enough : (n : ℕ) → ((d : Collector) (t : List ℕ) → Held d → 17 ≤ n + d.pages
      → read_on cut n d t ≡ read_from cut d t)
      → (c : Collector) → Held c → 17 ≤ suc n + c.pages → (x : Next)
      → following (read_on cut n) c x ≡ following (read_on cut (16 - c.pages)) c x
  on_enough n ih c h k ended = refl
  on_enough n ih c h k broken = refl
  on_enough n ih c h k (next p rest) =
      let m = number_of (open_in c p).answer in
      let d = (open_in c p).collector in
      rw (page_open c h p)
      (bool_cases (eqb m 0)
      (λ e. let z : m ≡ 0 = eqb-true m 0 e in
      let q = taken_pages c h p z in
      let l : 17 - d.pages ≡ 16 - c.pages = omega arith in
      rw e (ih d rest (taken_held c h p z) (omega arith) ∙ ap (λ (j : ℕ). read_on cut j d rest) l))
      (λ e. rw e))

  pub read_enough : (n : ℕ) (c : Collector) (s : List ℕ) → Held c → 17 ≤ n + c.pages
      → read_on cut n c s ≡ read_from cut c s
  read_enough zero c s h k = absurd (omega (arith, h.sound.within, h.sound.few))
  read_enough (suc n) c s h k =
      let by : Bool → Reading = λ b. cond b (closed c s) (following (read_on cut n) c (cut s)) in
      bool_cases c.layout.complete
      (λ e. ap by e ∙ sym (read_closed c h cut s e))
      (λ e. ap by e ∙ on_enough n (read_enough n) c h k (cut s) ∙ sym (read_next c h cut s e))

-- Bytes after the last page.
pub closed_more : (c : Collector) (s : List ℕ) → 0 < length s → closed c s ≡ refused_at 2 c.pages
closed_more c [] h = absurd (omega arith)
closed_more c (b ∷ rest) h = refl

-- No byte after the last page.
pub closed_none : (c : Collector) (s : List ℕ) → length s ≡ 0 → closed c s ≡ closed c []
closed_none c [] h = refl
closed_none c (b ∷ rest) h = absurd (omega arith)

-- A new collector keeps the rules.
pub new_held : Held new_collector
unfolding rule_broken neighbours_hold distinct_hold pack_components
new_held =
    record {
      sound =
          record {
            few = omega arith;
            none = λ e. refl;
            unfinished = λ e. refl;
            within = omega arith;
            whole = refl;
            kept = refl;
          };
      places = refl;
    }

-- A run is read from a new collector.
pub read_start : (cut : List ℕ → Next) (s : List ℕ) → read_run cut s ≡ read_from cut new_collector s
unfolding read_run
read_start cut s = refl

-- Where a refusal was given the number of its page.
pub refused_page : {A : Type 0} (r : Result A Refusal) (x : RefusedPage) (p : ℕ)
    → MatchResult r (λ _. ⊥) (λ e. x ≡ record { refusal = e; page = p })
    → (e : Refusal) × (r ≡ Err e) × (x ≡ record { refusal = e; page = p })
refused_page (Ok y) x p m = absurd m
refused_page (Err e) x p m = (e, refl, m)

-- Where no refusal was.
pub given_page : {A : Type 0} (r : Result A Refusal) (x : A) → MatchResult r (λ y. y ≡ x) (λ _. ⊥) → r ≡ Ok x
given_page (Ok y) x m = rw m
given_page (Err e) x m = absurd m

pub given_cut : (r : Result (Bor (List ℕ) × Bor (List ℕ)) Refusal) (n : Next) (p rest : Bor (List ℕ))
    → MatchResult r (λ y. y ≡ (p, rest)) (λ _. ⊥) → cut_says r ≡ next_answer n → Ok (p.now, rest.now) ≡ next_answer n
given_cut r n p rest m e = rw (given_page r (p, rest) m) at e
