-- The next page: the number of its refusal test by test, and what is known once it is refused or taken.
use Rattle.std.specs.Prelude.{ℕ, ◌+◌, ◌-◌, ◌≤◌, ◌<◌, min, ◌≡◌, List, ◌++◌, map, true, false, eqb, ltb, length, get_or}
use Rattle.std.specs.Prelude.{take, drop}
use Rattle.std.proofs.Common.{sym, ap, ◌∙◌, append_assoc, arith, length-append, length-take-le, get_or-take}
use Rattle.std.proofs.Common.{get_or-append-add, take_at, drop_at}
use Rattle.std.proofs.Math.ListN.{length-drop, get_or-map}
use Rattle.std.proofs.lemmas.List.{length-map}
use Rattle.std.proofs.lemmas.List.Edits.{sets, sets-eq}
use Rattle.std.proofs.Math.Seq.{slice, length-sets}
use borrow.Author.Tests.{ne_eqb, eq-eqb, le-leb, lt-leb, ltb-true, ltb-false}
use Rattle.lists.specs.Bools.{bool_cases}
use Rattle.lists.specs.Slices.{any_default}
use Rattle.page.specs.Form.{component_end, counted, places_from, page_places, page_end, form_by}
use Rattle.page.specs.Content.{head_of}
use Rattle.page.specs.FormLaws.{length_places, place_within, form_room, form_components, page_within, some_components}
use Rattle.collector.specs.Taking.{is_next}
use Rattle.in_place.specs.Places.{components_at, Within}
use Rattle.in_place.specs.Joining.{new_rule_broken}
use Rattle.placed_run.specs.declared.Progress.{Progress}
use Rattle.placed_run.specs.Placing.{Placed, next_refusal, placed_next}
use Rattle.placed_run.specs.Progress.{placed_of, InRange}
use Rattle.placed_run.specs.ShiftLaws.{records_shift}
use Rattle.placed_run.proofs.PlacingLaws.{next_refused}

-- The element at a position below n is that of the first n.
same_first : (n i : ℕ) (xs ys : List ℕ) → take n xs ≡ take n ys → i < n → get_or xs i 0 ≡ get_or ys i 0
same_first n i xs ys e h =
    sym (get_or-take n xs i 0 h) ∙ ap (λ (l : List ℕ). get_or l i 0) e ∙ get_or-take n ys i 0 h

get_d_shift : (base : ℕ) (ps : List ℕ) (i : ℕ) → i < length ps
    → get_or (map (λ (p : ℕ). base + p) ps) i 0 ≡ base + get_or ps i 0
get_d_shift base ps i h =
    any_default (map (λ (p : ℕ). base + p) ps) i 0 (base + 0) (rw length-map h)
    ∙ get_or-map (λ (p : ℕ). base + p) ps i 0

module _ (s : List ℕ) (p : Progress) (places : List ℕ) (k : InRange s p places) where
  abbrev rest : List ℕ
  rest = drop p.at s

  abbrev so_far : Placed
  so_far = placed_of 0 p places

  -- The number: no bytes are left,
  pub next_1 : length s ≤ p.at → next_refusal s so_far ≡ 1
  unfolding next_refusal
  next_1 h = rw (eq-eqb (length rest) 0 (omega (arith, length-drop p.at s)))

  module _ (h : p.at < length s) where
    some_left : eqb (length rest) 0 ≡ false
    some_left = ne_eqb (length rest) 0 (λ e. omega (arith, length-drop p.at s))

    -- the page has not its form,
    pub next_3 : form_by (min 512 (length rest)) rest ≡ false → next_refusal s so_far ≡ 3
    unfolding next_refusal
    next_3 e = rw (some_left, e)

    module _ (f : form_by (min 512 (length rest)) rest ≡ true) where
      -- it is not the next,
      pub next_4 : is_next p.pages p.generation (head_of rest) ≡ false → next_refusal s so_far ≡ 4
      unfolding next_refusal
      next_4 e = rw (some_left, f, e)

      module _ (e : is_next p.pages p.generation (head_of rest) ≡ true) where
        count_taken : length (take p.count places) ≡ p.count
        count_taken = length-take-le p.count places (omega (arith, k.few, k.room))

        -- there would be more than 16 components,
        pub next_5 : 16 < p.count + counted rest → next_refusal s so_far ≡ 5
        unfolding next_refusal
        next_5 w = rw (some_left, f, e, count_taken, lt-leb (p.count + counted rest) 16 w)

        -- and else by the rules of fields and of neighbours.
        pub next_rule : p.count + counted rest ≤ 16 → next_refusal s so_far
            ≡ new_rule_broken (head_of rest).more (components_at s (take p.count places))
            (components_at s (page_places p.at rest))
        unfolding next_refusal
        next_rule w = rw (some_left, f, e, count_taken, le-leb (p.count + counted rest) 16 w)

  -- The page is refused, and the first places are as they were.
  module _ (after : List ℕ) (same : take p.count after ≡ take p.count places) (room : length after ≡ 16) where
    pub kept_refused : InRange s p after
    kept_refused =
        record {
          reached = k.reached;
          pages = k.pages;
          few = k.few;
          room = room;
          within = λ i h. rw (same_first p.count i after places same h) (k.within i h);
        }

    pub says_refused : (n : ℕ) → next_refusal s so_far ≡ n → 0 < n
        → placed_of n p after ≡ placed_next s so_far
    says_refused n e h = rw (next_refused s so_far n e h, same)

  -- The page has its form, and its places are stored after the others.
  module _ (f : form_by (min 512 (length rest)) rest ≡ true) where
    pub whole_head : p.at + 16 ≤ length s
    whole_head = omega (arith, form_room (min 512 (length rest)) rest f, length-drop p.at s, k.reached)

    module _ (w : p.count + counted rest ≤ 16) where
      abbrev new : List ℕ
      new = page_places p.at rest

      abbrev after : List ℕ
      after = sets places p.count new

      length_new : length new ≡ counted rest
      length_new = length-map (places_from (counted rest) rest 16) _ ∙ length_places (counted rest) rest 16

      stored : after ≡ take p.count places ++ new ++ drop (p.count + length new) places
      stored = sets-eq new places p.count (omega (arith, length_new, k.room))

      first_length : length (take p.count places) ≡ p.count
      first_length = length-take-le p.count places (omega (arith, k.few, k.room))

      first_kept : take p.count after ≡ take p.count places
      first_kept =
          let after-new = drop (p.count + length new) places in
          rw (stored, append_assoc (take p.count places) new after-new)
          (take_at (take p.count places) (new ++ after-new) p.count first_length)

      -- The places of all components so far.
      pub all_places : take (p.count + counted rest) after ≡ take p.count places ++ new
      all_places =
          let n : length (take p.count places ++ new) ≡ p.count + counted rest =
          length-append (take p.count places) new ∙ omega (arith, first_length, length_new) in
          rw stored
          (take_at (take p.count places ++ new) (drop (p.count + length new) places) (p.count + counted rest) n)

      -- Those of the page.
      pub new_places : slice p.count (p.count + counted rest) after ≡ new
      new_places = rw all_places (drop_at (take p.count places) new p.count first_length)

      -- Each component of the page ends by the end of the bytes.
      new_within : (i : ℕ) → i < counted rest → component_end s (get_or new i 0) ≤ length s
      new_within i h =
          let qs = places_from (counted rest) rest 16 in
          let q = get_or qs i 0 in
          let lim = min 512 (length rest) in
          let w = place_within (counted rest) lim rest 16 i (form_components lim rest f) h in
          let r = records_shift s p.at q in
          let e : get_or new i 0 ≡ p.at + q = get_d_shift p.at qs i
          (omega (arith, length_places (counted rest) rest 16)) in
          rw (e, r) (omega (arith, length-drop p.at s, k.reached))

      pub all_within : Within s (p.count + counted rest) after
      all_within i h =
          bool_cases (ltb i p.count)
          (λ e. let b : i < p.count = ltb-true i p.count e in
          rw (same_first p.count i after places first_kept b) (k.within i b))
          (λ e. let b : p.count ≤ i = ltb-false i p.count e in
          let j = i - p.count in
          let n : length (take p.count places) + j ≡ i = omega (arith, first_length) in
          let x : get_or after i 0 ≡ get_or new j 0 =
          sym (get_or-take (p.count + counted rest) after i 0 h)
          ∙ ap (λ (l : List ℕ). get_or l i 0) all_places
          ∙ ap (λ (m : ℕ). get_or (take p.count places ++ new) m 0) (sym n)
          ∙ get_or-append-add (take p.count places) new j 0 in
          rw x (new_within j (omega arith)))

      -- What is known once the page is taken.
      pub kept_taken : (q : Progress) → q.at ≡ p.at + page_end rest → q.pages ≡ p.pages + 1
          → q.count ≡ p.count + counted rest → InRange s q after
      kept_taken q at pages count =
          record {
            reached = omega (arith, page_within (min 512 (length rest)) rest f, length-drop p.at s, k.reached);
            pages = omega (arith, k.pages, some_components (min 512 (length rest)) rest f);
            few = omega arith;
            room = length-sets places p.count new ∙ k.room;
            within = rw count all_within;
          }
