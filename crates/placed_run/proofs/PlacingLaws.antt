-- Reading in place gives the number and the components that gathering a layout page by page gives. Distinctness asked
-- once at the end gives the number that asking page by page gives.
use Prim.Native.Nat.{ℕ, zero, suc, ◌+◌, ◌≤◌, ◌<◌, min}
use Rattle.std.specs.Prelude.{◌≡◌, List, [], ◌++◌, Bool, true, false, not, eqb, leb, length, take, drop}
use Rattle.std.proofs.Math.Path.{refl, sym, ap}
use Rattle.std.proofs.Common.{ap₂, subst, ◌∙◌, append-nil, append_assoc, arith, length-drop, drop-drop, eqb-true}
use Rattle.std.proofs.Common.{ne_eqb, leb-true, leb-false}
use Rattle.std.proofs.lemmas.List.{map-append, length-map}
use Rattle.std.proofs.Math.Bool.{cond, and-false}
use Rattle.std.proofs.Math.Seq.{take-append_seam}
use Rattle.std.proofs.lemmas.Bool.{eqb-false}
use Rattle.lists.specs.Bools.{bool_cases, both_true, true_both, clash}
use Rattle.lists.specs.Tests.{every, take_along, every_take}
use Rattle.lists.specs.Counting.{fresh, unseen, seen_with}
use Rattle.layout.specs.declared.Component.{Component}
use Rattle.layout.specs.Records.{id_of, ids_of, records_in, packed}
use Rattle.layout.specs.Distinct.{same_object, id_tests, object_tests, distinct_hold}
use Rattle.layout.specs.Rules.{rule_broken}
use Rattle.layout.specs.FactLaws.{rules_hold}
use Rattle.layout.specs.PrefixLaws.{records_in_append}
use Rattle.page.specs.Form.{counted, page_places, page_end, form_by}
use Rattle.page.specs.Content.{component_at, head_of, components_of}
use Rattle.page.specs.FormLaws.{length_components, some_components}
use Rattle.collector.specs.declared.Collector.{Collector}
use Rattle.collector.specs.Runs.{Reading}
use Rattle.collector.specs.Taking.{Taken}
use Rattle.collector.specs.Collector.{new_collector, gathered}
use Rattle.collector.specs.Taking.{number_of, is_next, added, content_refusal, settled, content_in, open_in}
use Rattle.collector.specs.TakingLaws.{settled_number}
use Rattle.collector.specs.Sound.{view_joined, content_taken}
use Rattle.collector.proofs.RunLaws.{Held, read_from, read_start, new_held, read_ended, read_closed, closed_more}
use Rattle.collector.proofs.RunLaws.{closed_none}
use Rattle.collector.proofs.RunLaws.{read_refused, read_taken, taken_held}
use Rattle.collector.proofs.CutLaws.{host_ended, host_fault, host_page, host_content}
use Rattle.collector.specs.Runs.{refused_at, read_run, host_cut}
use Rattle.in_place.specs.Places.{components_at}
use Rattle.in_place.specs.Joining.{new_rule_broken}
use Rattle.in_place.specs.JoiningLaws.{rule_new, rule_rest}
use Rattle.placed_run.specs.Placing.{Placed, none_placed, next_refusal, refused_by, with_page, placed_by}
use Rattle.placed_run.specs.Placing.{placed_next, goes_on, placed_on, placed_run, end_refusal, placed_refusal}
use Rattle.placed_run.specs.ShiftLaws.{placed_components}

-- If the elements of two lists, one after the other, all differ, those of the first do.
fresh_first : {A : Type 0} (same : A → A → Bool) (xs ys : List A) → every (fresh same (xs ++ ys)) ≡ true
    → every (fresh same xs) ≡ true
fresh_first same xs ys e =
    let t = every_take (length xs) (fresh same (xs ++ ys)) e in
    rw (take_along (unseen same) seen_with (length xs) [] (xs ++ ys), take-append_seam xs ys) at t

-- If components are distinct, the first of them are.
pub distinct_first : (xs ys : List Component) → distinct_hold (xs ++ ys) ≡ true → distinct_hold xs ≡ true
unfolding distinct_hold
distinct_first xs ys e =
    let p = both_true (every (id_tests (xs ++ ys))) (every (object_tests (xs ++ ys))) e in
    true_both
    (fresh_first eqb (ids_of xs) (ids_of ys) (rw (map-append id_of xs ys) at p.0))
    (fresh_first same_object (records_in xs) (records_in ys) (rw (records_in_append xs ys) at p.1))

module _ (s : List ℕ) where
  -- A reading that wants no page stays as it is.
  pub placed_stays : (left : ℕ) (p : Placed) → goes_on p ≡ false → placed_on left s p ≡ p
  placed_stays zero p e = refl
  placed_stays (suc left) p e = rw e

  -- Reading on only adds places after those that are there.
  next_adds : (p : Placed) (n : ℕ) → (ps : List ℕ) × ((placed_by n s p).places ≡ p.places ++ ps)
  next_adds p zero = (page_places p.at (drop p.at s), refl)
  next_adds p (suc n) = ([], sym (append-nil p.places))

  places_added : (left : ℕ) (p : Placed) → (ps : List ℕ) × ((placed_on left s p).places ≡ p.places ++ ps)
  unfolding placed_next
  places_added zero p = ([], sym (append-nil p.places))
  places_added (suc left) p =
      bool_cases (goes_on p)
      (λ e. let a = next_adds p (next_refusal s p) in
      let b = places_added left (placed_next s p) in
      (a.0 ++ b.0, rw e (b.1 ∙ rw a.1 (append_assoc p.places a.0 b.0))))
      (λ e. ([], rw e (sym (append-nil p.places))))

  -- The number at the end, if the components of the pages taken are distinct, and if they are not.
  placed_distinct : (q : Placed) → distinct_hold (components_at s q.places) ≡ true
      → placed_refusal s q ≡ end_refusal s q
  unfolding placed_refusal
  placed_distinct q e = ap (λ (b : Bool). cond b (end_refusal s q) 8) e

  placed_repeat : (q : Placed) → distinct_hold (components_at s q.places) ≡ false → placed_refusal s q ≡ 8
  unfolding placed_refusal
  placed_repeat q e = ap (λ (b : Bool). cond b (end_refusal s q) 8) e

  -- A collector and a reading in place that have taken the same pages, none of them refused.
  pub record Matches (c : Collector) (p : Placed) : Type 0 where
    pub held : Held c
    pub taken : p.refusal ≡ 0
    pub pages : c.pages ≡ p.pages
    pub generation : c.layout.generation ≡ p.generation
    pub complete : c.layout.complete ≡ not p.more
    pub components : gathered c ≡ components_at s p.places

  -- A reading and a reading in place that ended alike.
  pub record EndAlike (r : Reading) (q : Placed) : Type 0 where
    pub refusal : r.refusal ≡ placed_refusal s q
    pub layout : r.refusal ≡ 0 → r.layout ≡ packed q.generation (components_at s q.places)

  module _ (c : Collector) (p : Placed) (m : Matches c p) where
    abbrev rest : List ℕ
    rest = drop p.at s

    -- What was gathered is distinct.
    distinct_old : distinct_hold (components_at s p.places) ≡ true
    distinct_old = rw (← m.components) (rules_hold (not c.layout.complete) (gathered c) m.held.sound.kept).2

    count_is : c.layout.count ≡ length p.places
    count_is =
        sym m.held.sound.whole ∙ ap (λ (cs : List Component). length cs) m.components
        ∙ length-map p.places (component_at s)

    -- No page is wanted.
    end_closed : p.more ≡ false → EndAlike (read_from host_cut c rest) p
    end_closed e =
        let done : c.layout.complete ≡ true = m.complete ∙ rw e in
        let n = length-drop p.at s in
        let r = read_closed c m.held host_cut rest done in
        let number = placed_distinct p distinct_old in
        bool_cases (leb (length s) p.at)
        (λ w. let h : length s ≤ p.at = leb-true (length s) p.at w in
        let z = r ∙ closed_none c rest (omega arith) in
        let end : end_refusal s p ≡ 0 = rw (m.taken, w) in
        record {
          refusal = ap (λ (x : Reading). x.refusal) z ∙ sym (number ∙ end);
          layout = λ x. rw (z, m.generation, m.components);
        })
        (λ w. let h : p.at < length s = leb-false (length s) p.at w in
        let z = r ∙ closed_more c rest (omega arith) in
        let end : end_refusal s p ≡ 2 = rw (m.taken, w) in
        record {
          refusal = ap (λ (x : Reading). x.refusal) z ∙ sym (number ∙ end);
          layout = λ x. let y : 2 ≡ 0 = rw z at x in absurd (omega arith);
        })

    -- The next page is refused by a number that is not of distinctness.
    end_refused : (left n : ℕ) → 0 < n → read_from host_cut c rest ≡ refused_at n c.pages
        → EndAlike (read_from host_cut c rest) (placed_on left s (refused_by n p))
    end_refused left n h e =
        let z : eqb n 0 ≡ false = ne_eqb n 0 (λ x. omega arith) in
        let stays = placed_stays left (refused_by n p) (rw (z, and-false p.more)) in
        let end : end_refusal s (refused_by n p) ≡ n = rw z in
        let number : placed_refusal s (refused_by n p) ≡ n = placed_distinct (refused_by n p) distinct_old ∙ end in
        record {
          refusal = ap (λ (x : Reading). x.refusal) e ∙ sym (ap (placed_refusal s) stays ∙ number);
          layout = λ x. let y : n ≡ 0 = rw e at x in absurd (omega arith);
        }

    -- Pages are outstanding, and the next page has its form: the components that it adds, and the number of its
    -- refusal.
    module _ (more : p.more ≡ true) (some : 0 < length rest) (form : form_by (min 512 (length rest)) rest ≡ true) where
      abbrev new : List Component
      new = components_of rest

      added_components : components_at s (p.places ++ page_places p.at rest) ≡ gathered c ++ new
      added_components =
          map-append (component_at s) p.places (page_places p.at rest)
          ∙ ap₂ (λ (a b : List Component). a ++ b) (sym m.components) (placed_components s p.at)

      has_some : 0 < length new
      has_some = omega (arith, length_components rest, some_components (min 512 (length rest)) rest form)

      outstanding : c.layout.complete ≡ false
      outstanding = m.complete ∙ rw more

      known : rule_broken true (gathered c) ≡ 0
      known = rw outstanding at m.held.sound.kept

      abbrev next_test : Bool
      next_test = is_next p.pages p.generation (head_of rest)

      abbrev room_test : Bool
      room_test = leb (length p.places + counted rest) 16

      abbrev new_rule : ℕ
      new_rule = new_rule_broken (head_of rest).more (gathered c) new

      -- The number asked in place,
      asked_light : next_refusal s p ≡ cond next_test (cond room_test new_rule 5) 4
      unfolding next_refusal
      asked_light =
          rw (ne_eqb (length rest) 0 (λ z. omega arith), form, placed_components s p.at, ← m.components)

      -- and the number that a collector gives.
      asked_full : content_refusal c (head_of rest) new
          ≡ cond next_test (cond room_test (rule_broken (head_of rest).more (gathered c ++ new)) 5) 4
      unfolding content_refusal
      asked_full = rw (m.pages, m.generation, count_is, length_components rest)

      -- If the number asked in place refuses, it is the collector's;
      full_light : 0 < next_refusal s p → content_refusal c (head_of rest) new ≡ next_refusal s p
      full_light h =
          bool_cases next_test
          (λ e. bool_cases room_test
          (λ f. let k : 0 < new_rule = rw (asked_light, e, f) at h in
          rw (asked_light, asked_full, e, f) (rule_new (head_of rest).more (gathered c) new has_some known k))
          (λ f. rw (asked_light, asked_full, e, f)))
          (λ e. rw (asked_light, asked_full, e))

      -- where it does not, the collector asks no more than distinctness.
      full_rest : next_refusal s p ≡ 0 → content_refusal c (head_of rest) new
          ≡ cond (distinct_hold (gathered c ++ new)) 0 8
      full_rest h =
          bool_cases next_test
          (λ e. bool_cases room_test
          (λ f. let k : new_rule ≡ 0 = rw (asked_light, e, f) at h in
          rw (asked_full, e, f) (rule_rest (head_of rest).more (gathered c) new has_some known k))
          (λ f. let k : 5 ≡ 0 = rw (asked_light, e, f) at h in absurd (omega arith)))
          (λ e. let k : 4 ≡ 0 = rw (asked_light, e) at h in absurd (omega arith))

      -- The page, cut off from the bytes, is taken by what it says.
      abbrev cut_page : List ℕ
      cut_page = take (page_end rest) rest

      said : open_in c cut_page ≡ content_in c (head_of rest) new
      said = host_content rest some form c outstanding

      said_number : (n : ℕ) → content_refusal c (head_of rest) new ≡ n → number_of (open_in c cut_page).answer ≡ n
      said_number n e =
          ap (λ (t : Taken). number_of t.answer) said
          ∙ settled_number (content_refusal c (head_of rest) new) c (head_of rest) new ∙ e

      full_refused : (n : ℕ) → content_refusal c (head_of rest) new ≡ n → 0 < n
          → read_from host_cut c rest ≡ refused_at n c.pages
      full_refused n e h =
          read_refused c m.held host_cut rest outstanding cut_page (drop (page_end rest) rest)
          (host_page rest some form)
          n (said_number n e) h

      -- Taken, the collector with the page matches the reading with its places.
      module _ (z : content_refusal c (head_of rest) new ≡ 0) where
        abbrev c' : Collector
        c' = (open_in c cut_page).collector

        taken_as : c' ≡ added c (head_of rest) new
        unfolding settled
        taken_as =
            ap (λ (t : Taken). t.collector) said
            ∙ ap (λ (n : ℕ). (settled n c (head_of rest) new).collector) z

        full_taken : read_from host_cut c rest ≡ read_from host_cut c' (drop (with_page s p).at s)
        full_taken =
            read_taken c m.held host_cut rest outstanding cut_page (drop (page_end rest) rest)
            (host_page rest some form)
            (said_number 0 z)
            ∙ rw (drop-drop (page_end rest) p.at s)

        matches_taken : Matches c' (with_page s p)
        matches_taken =
            let room : c.layout.count + length new ≤ length c.layout.components =
            omega (arith, (content_taken c (head_of rest) new z).1, m.held.places) in
            record {
              held = taken_held c m.held cut_page (said_number 0 z);
              taken = refl;
              pages = ap (λ (d : Collector). d.pages) taken_as ∙ ap (λ (n : ℕ). n + 1) m.pages;
              generation = ap (λ (d : Collector). d.layout.generation) taken_as;
              complete = ap (λ (d : Collector). d.layout.complete) taken_as;
              components =
                  ap (λ (d : Collector). gathered d) taken_as
                  ∙ view_joined (head_of rest) c.layout new room
                  ∙ sym added_components;
            }

      -- Refused by 8: the components stay among those that are read in place, and are not distinct at the end.
      end_repeat : (left : ℕ) → next_refusal s p ≡ 0 → distinct_hold (gathered c ++ new) ≡ false
          → EndAlike (read_from host_cut c rest) (placed_on left s (with_page s p))
      end_repeat left h f =
          let full : content_refusal c (head_of rest) new ≡ 8 = full_rest h ∙ rw f in
          let r = full_refused 8 full (omega arith) in
          let q = placed_on left s (with_page s p) in
          let a = places_added left (with_page s p) in
          let all : components_at s q.places ≡ (gathered c ++ new) ++ components_at s a.0 =
          ap (components_at s) a.1
          ∙ map-append (component_at s) (p.places ++ page_places p.at rest) a.0
          ∙ ap (λ (x : List Component). x ++ components_at s a.0) added_components in
          let repeat : distinct_hold (components_at s q.places) ≡ false =
          bool_cases (distinct_hold (components_at s q.places))
          (λ e. clash (distinct_first (gathered c ++ new) (components_at s a.0) (rw all at e)) f)
          (λ e. e) in
          record {
            refusal = ap (λ (x : Reading). x.refusal) r ∙ sym (placed_repeat q repeat);
            layout = λ x. let y : ◌≡◌ {A = ℕ} 8 0 = rw r at x in absurd (omega arith);
          }

  -- What is asked in place if no bytes are left, and if the page has not its form.
  light_ended : (p : Placed) → eqb (length (drop p.at s)) 0 ≡ true → next_refusal s p ≡ 1
  unfolding next_refusal
  light_ended p e = rw e

  light_faulty : (p : Placed) → (let t = drop p.at s in
      eqb (length t) 0 ≡ false → form_by (min 512 (length t)) t ≡ false → next_refusal s p ≡ 3)
  unfolding next_refusal
  light_faulty p e f = rw (e, f)

  -- The number by which the next page is refused in place, and the reading with it.
  pub next_refused : (p : Placed) (n : ℕ) → next_refusal s p ≡ n → 0 < n → placed_next s p ≡ refused_by n p
  unfolding placed_next
  next_refused p zero e h = absurd (omega arith)
  next_refused p (suc n) e h = ap (λ (k : ℕ). placed_by k s p) e

  pub next_taken : (p : Placed) → next_refusal s p ≡ 0 → placed_next s p ≡ with_page s p
  unfolding placed_next
  next_taken p e = ap (λ (k : ℕ). placed_by k s p) e

  -- Reading on from a collector and in place ends alike, while the pages that may come are enough.
  end_alike : (left : ℕ) (c : Collector) (p : Placed) → Matches c p → 17 ≤ left + p.pages
      → EndAlike (read_from host_cut c (drop p.at s)) (placed_on left s p)
  end_alike zero c p m h =
      absurd (omega (arith, m.held.sound.within, m.held.sound.few, m.pages))
  end_alike (suc left) c p m h =
      let t = drop p.at s in
      let r = read_from host_cut c t in
      bool_cases p.more
      (λ e.
      let goes : goes_on p ≡ true = rw (e, m.taken) in
      let next : placed_on left s (placed_next s p) ≡ placed_on (suc left) s p = rw goes in
      let out : c.layout.complete ≡ false = m.complete ∙ rw e in
      subst (EndAlike r) next
      (bool_cases (eqb (length t) 0)
      (λ f. let z : length t ≡ 0 = eqb-true (length t) 0 f in
      rw (next_refused p 1 (light_ended p f) (omega arith))
      (end_refused c p m left 1 (omega arith) (read_ended c m.held host_cut t out (host_ended t z))))
      (λ f. let some : 0 < length t = omega (arith, eqb-false (length t) 0 f) in
      bool_cases (form_by (min 512 (length t)) t)
      (λ g.
      bool_cases (eqb (next_refusal s p) 0)
      (λ z0. let z : next_refusal s p ≡ 0 = eqb-true (next_refusal s p) 0 z0 in
      rw (next_taken p z)
      (bool_cases (distinct_hold (gathered c ++ components_of t))
      (λ d. let full : content_refusal c (head_of t) (components_of t) ≡ 0 = full_rest c p m e some g z ∙ rw d in
      rw (full_taken c p m e some g full)
      (end_alike left (open_in c (take (page_end t) t)).collector (with_page s p)
      (matches_taken c p m e some g full) (omega arith)))
      (λ d. end_repeat c p m e some g left z d)))
      (λ z0. let k : 0 < next_refusal s p = omega (arith, eqb-false (next_refusal s p) 0 z0) in
      rw (next_refused p (next_refusal s p) refl k)
      (end_refused c p m left (next_refusal s p) k
      (full_refused c p m e some g (next_refusal s p) (full_light c p m e some g k) k))))
      (λ g.
      rw (next_refused p 3 (light_faulty p f g) (omega arith))
      (end_refused c p m left 3 (omega arith) (host_fault t some c m.held out g))))))
      (λ e.
      let stays : p ≡ placed_on (suc left) s p = sym (placed_stays (suc left) p (rw e)) in
      subst (EndAlike r) stays (end_closed c p m e))

  -- The whole reading in place ends as the reading into a layout does.
  pub run_alike : EndAlike (read_run host_cut s) (placed_run s)
  unfolding placed_run
  run_alike =
      rw (read_start host_cut s)
      (end_alike 17 new_collector none_placed
      (record { held = new_held; taken = refl; pages = refl; generation = refl; complete = refl; components = refl })
      (omega arith))
