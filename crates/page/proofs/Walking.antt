-- The walk over a page: what is left of it at its start, after a component of its form, and after the last one.
use Prim.Native.Nat.{ℕ, ◌+◌, ◌-◌, ◌≤◌, ◌<◌}
use mathlib.Core.Path.{◌≡◌, refl}
use mathlib.Core.List.{List, map, map-id}
use mathlib.Core.Bool.{Bool, true, false}
use Rattle.std.proofs.Common.{Option, Some, None}
use Rattle.std.specs.Option.{option_eq}
use native.Mathlib.Omega.{arith}
use native.Mathlib.Nat.{sub-zero, zero-add}
use lib.Dec.{eqb}
use lib.ListN.{length, set, take}
use lib.Seq.{sets}
use borrow.Author.Tests.{le-leb, lt-leb}
use Rattle.lists.specs.Bools.{bool_cases, clash}
use Rattle.lists.specs.Slices.{sets_next, take_sets}
use Rattle.page.specs.Form.{objects_form, component_marks, records_at, component_end, component_form, components_form}
use Rattle.page.specs.Form.{places_from}
use Rattle.page.specs.Form.{end_if, end_from, head_form, counted, form_by, page_form}
use Rattle.page.specs.FormLaws.{length_places, few_components, page_by}
use Rattle.page.specs.Walked.{Walks, Walked, walked_page}
use Rattle.page.proofs.Turns.{turn}

-- Places counted from `base` bytes before the page.
abbrev pub shifted : ℕ → List ℕ → List ℕ
shifted base ps = map (λ (p : ℕ). base + p) ps

-- The head: too short, without its form, and with it.
module _ (limit : ℕ) (s : List ℕ) where
  pub form_short : limit < 16 → form_by limit s ≡ false
  unfolding form_by
  form_short h = rw (lt-leb 16 limit h)

  pub form_headless : head_form s ≡ false → 16 ≤ limit → form_by limit s ≡ false
  unfolding form_by
  form_headless e h = rw (le-leb 16 limit h, e)

  pub form_start : head_form s ≡ true → 16 ≤ limit → form_by limit s ≡ components_form (counted s - 0) limit s 16
  unfolding form_by
  form_start e h = rw (le-leb 16 limit h, e, sub-zero)

-- The component at a place: the tests in the walk's order.
module _ (limit : ℕ) (s : List ℕ) (at : ℕ) where
  pub past_limit : limit < component_end s at → component_form limit s at ≡ false
  unfolding component_form
  past_limit h = rw (lt-leb (component_end s at) limit h)

  module _ (h : component_end s at ≤ limit) where
    pub marks_wrong : component_marks s at ≡ false → component_form limit s at ≡ false
    unfolding component_form
    marks_wrong e = rw (le-leb (component_end s at) limit h, e)

    module _ (e : component_marks s at ≡ true) where
      pub objects_wrong : objects_form (records_at s at) s (at + 40) ≡ false → component_form limit s at ≡ false
      unfolding component_form
      objects_wrong f = rw (le-leb (component_end s at) limit h, e, f)

-- What ends has its form, and ends where it does.
pub ended : (formed : Bool) (end at : ℕ) → Some at ≡ end_if formed end → (formed ≡ true) × (at ≡ end)
ended true end at e = (refl, cc)
ended false end at e = absurd (cc)

-- A turn, with i of n components walked over and the next at a place.
module _ (limit : ℕ) (s : List ℕ) (n i at : ℕ) where
  pub form_turn : i < n → component_form limit s at ≡ true
      → components_form (n - i) limit s at ≡ components_form (n - (i + 1)) limit s (component_end s at)
  form_turn h e = rw (turn n i h, e)

module _ (s : List ℕ) (n i at : ℕ) where
  pub end_turn : i < n → end_from (n - i) s at ≡ end_from (n - (i + 1)) s (component_end s at)
  end_turn h = rw (turn n i h)

  module _ (base m : ℕ) (places : List ℕ) where
    pub places_turn : i < n → sets places (m + i) (shifted base (places_from (n - i) s at))
        ≡ sets (set places (m + i) (base + at)) (m + (i + 1))
        (shifted base (places_from (n - (i + 1)) s (component_end s at)))
    places_turn h =
        rw (turn n i h) (sets_next places m i (base + at)
        (shifted base (places_from (n - (i + 1)) s (component_end s at))))

-- If the page has not its form.
pub walks_faulty : (limit : ℕ) (s : List ℕ) (base n : ℕ) (before after : List ℕ) → form_by limit s ≡ false
    → take n after ≡ take n before → length after ≡ length before → Walks limit s base n before after None
walks_faulty limit s base n before after e k l = (rw e, k, l, λ f. clash f e)

-- The walk over bytes that are to be one page.
module _ (s : List ℕ) where
  pub page_long : 512 < length s → page_form s ≡ false
  unfolding page_form
  page_long h = rw (lt-leb (length s) 512 h)

  module _ (h : length s ≤ 512) (before after : List ℕ) (end : Option ℕ) (w : Walks (length s) s 0 0 before after end)
    where
      -- They are one exactly if the walk ends at their end.
      pub page_told : option_eq eqb end (Some (length s)) ≡ page_form s
      unfolding page_form
      page_told =
          bool_cases (form_by (length s) s)
          (λ e. rw (w.0, le-leb (length s) 512 h, e))
          (λ e. rw (w.0, le-leb (length s) 512 h, e))

      -- And then the first places are those of its components.
      pub page_walked : length before ≡ 16 → page_form s ≡ true → Walked s after
      page_walked room e =
          let f = page_by s e in
          let ps = places_from (counted s) s 16 in
          let n = length_places (counted s) s 16 in
          let few = few_components (length s) s f h in
          let stored : after ≡ sets before 0 ps = simp (zero-add, map-id) at (w.3 f) in
          walked_page s after e (rw stored (rw n at (take_sets before ps (omega arith))))
