-- Which component holds a byte, if the components are end to end, and which bytes are covered.
use Rattle.std.specs.Prelude.{ℕ, zero, suc, ◌-◌, ◌^◌, ◌≤◌, ◌<◌, ◌≡◌, refl, List, [], ◌∷◌, Bool, true, false, not, ltb, leb, length, get_or}
use Rattle.std.proofs.Common.{sym, ap, arith, ltb-true, ltb-false, leb-true, lt-ltb, le-ltb, le-leb}
use Rattle.lists.specs.Bools.{bool_cases, both_true}
use Rattle.lists.specs.Tests.{after, first_that, first_le, first_any, first_passes}
use Rattle.layout.specs.declared.Component.{Component}
use Rattle.layout.specs.Records.{no_component, neighbours_of}
use Rattle.layout.specs.Neighbours.{end_of}
use Rattle.layout.specs.Holder.{holds, holder_of, covers, last_end}
use Rattle.layout.specs.Facts.{Fields, Linked}
use Rattle.layout.specs.FactLaws.{kind_ordered}

-- The position of the first component whose end lies above byte b, from 0; the number of components if none does.
abbrev pub ends_above : ℕ → List Component → ℕ
ends_above b cs = first_that (λ (c : Component). ltb b c.end) cs

-- A component that ends at or before a byte does not hold it.
holds_past : (c : Component) (b : ℕ) → c.end ≤ b → holds c b ≡ false
holds_past c b h = bool_cases (leb c.begin b) (λ e. rw (e, le-ltb b c.end h)) (λ e. rw e)

-- A component that begins at or before a byte and ends above it holds it.
holds_in : (c : Component) (b : ℕ) → c.begin ≤ b → b < c.end → holds c b ≡ true
holds_in c b h k = rw (le-leb c.begin b h, lt-ltb b c.end k)

-- "EOF is 2^64 - 1; an extent is [begin, end), so byte 2^64 - 1 is in none."
pub eof_in_none : (c : Component) → c.end ≤ 2 ^ 64 - 1 → holds c (2 ^ 64 - 1) ≡ false
eof_in_none c h = holds_past c (2 ^ 64 - 1) h

-- The position of a byte's component is at most the number of components.
pub holder_le : (b : ℕ) (cs : List Component) → holder_of b cs ≤ length cs
holder_le b cs = first_le (λ (c : Component). holds c b) cs

-- The component at the position of a byte's component holds the byte.
pub holder_holds : (b : ℕ) (cs : List Component) → holder_of b cs < length cs
    → holds (get_or cs (holder_of b cs) no_component) b ≡ true
holder_holds b cs h = first_passes (λ (c : Component). holds c b) cs no_component h

-- A byte is covered exactly if the position of its component is below the number of components.
pub covers_holder : (b : ℕ) (cs : List Component) → covers cs b ≡ ltb (holder_of b cs) (length cs)
covers_holder b cs = first_any (λ (c : Component). holds c b) cs

module _ (more : Bool) where
  -- The list begins at `at`, at or below the byte.
  holder_from : (at : ℕ) (may : Bool) (cs : List Component) → Linked more at may cs → (b : ℕ) → at ≤ b
      → holder_of b cs ≡ ends_above b cs
  holder_from at may [] k b h = refl
  holder_from at may (c ∷ cs) k b h =
      bool_cases (ltb b c.end) (λ e. rw (holds_in c b (omega arith) (ltb-true b c.end e), e))
      (λ e. let p = ltb-false b c.end e in
      rw (holds_past c b p, e) (ap suc (holder_from c.end (not c.extension) cs k.3 b p)))

  -- If the components are end to end from 0, the first that ends above a byte is the one that holds it.
  pub holder_ends : (cs : List Component) → Linked more 0 false cs → (b : ℕ) → holder_of b cs ≡ ends_above b cs
  holder_ends cs k b = holder_from 0 false cs k b (omega arith)

  -- Each component begins at or after the place where the list begins, and ends at or after its own begin.
  placed : (at : ℕ) (may : Bool) (cs : List Component) → Linked more at may cs → Fields cs → (i : ℕ) → i < length cs
      → (at ≤ (get_or cs i no_component).begin) × ((get_or cs i no_component).begin ≤ (get_or cs i no_component).end)
  placed at may [] k f i h = absurd (omega arith)
  placed at may (c ∷ cs) k f zero h = omega (arith, kind_ordered f.1)
  placed at may (c ∷ cs) k f (suc i) h =
      omega (arith, kind_ordered f.1, placed c.end (not c.extension) cs k.3 f.2 i (omega arith))

  -- Ends never fall from one component to a later one.
  pub ends_rise : (at : ℕ) (may : Bool) (cs : List Component) → Linked more at may cs → Fields cs
      → (i j : ℕ) → i ≤ j → j < length cs → (get_or cs i no_component).end ≤ (get_or cs j no_component).end
  ends_rise at may [] k f i j h l = absurd (omega arith)
  ends_rise at may (c ∷ cs) k f zero zero h l = omega arith
  ends_rise at may (c ∷ cs) k f zero (suc j) h l =
      omega (arith, placed c.end (not c.extension) cs k.3 f.2 j (omega arith))
  ends_rise at may (c ∷ cs) k f (suc i) zero h l = absurd (omega arith)
  ends_rise at may (c ∷ cs) k f (suc i) (suc j) h l =
      ends_rise c.end (not c.extension) cs k.3 f.2 i j (omega arith) (omega arith)

  -- No two components hold a byte: a component that does is at the position of the byte's component.
  pub at_most_one : (at : ℕ) (may : Bool) (cs : List Component) → Linked more at may cs → Fields cs → (b i : ℕ) → i < length cs
      → holds (get_or cs i no_component) b ≡ true → i ≡ holder_of b cs
  at_most_one at may [] k f b i h e = absurd (omega arith)
  at_most_one at may (c ∷ cs) k f b zero h e = rw e
  at_most_one at may (c ∷ cs) k f b (suc i) h e =
      let d = get_or cs i no_component in
      let l = leb-true d.begin b (both_true (leb d.begin b) (ltb b d.end) e).0 in
      let p = placed c.end (not c.extension) cs k.3 f.2 i (omega arith) in
      rw (holds_past c b (omega (arith, l, p)))
      (ap suc (at_most_one c.end (not c.extension) cs k.3 f.2 b i (omega arith) e))

  -- The last end is not below the place where the list begins.
  last_above : (at : ℕ) (may : Bool) (cs : List Component) → Linked more at may cs → Fields cs → at ≤ after end_of at (neighbours_of cs)
  last_above at may [] k f = omega arith
  last_above at may (c ∷ cs) k f = omega (arith, kind_ordered f.1, last_above c.end (not c.extension) cs k.3 f.2)

  -- The list begins at `at`, at or below the byte.
  covers_from : (at : ℕ) (may : Bool) (cs : List Component) → Linked more at may cs → Fields cs → (b : ℕ) → at ≤ b
      → covers cs b ≡ ltb b (after end_of at (neighbours_of cs))
  covers_from at may [] k f b h = sym (le-ltb b at h)
  covers_from at may (c ∷ cs) k f b h =
      bool_cases (ltb b c.end)
      (λ e. let l = ltb-true b c.end e in
      rw (holds_in c b (omega arith) l)
      (sym (lt-ltb b (after end_of c.end (neighbours_of cs)) (omega (arith, last_above c.end (not c.extension) cs k.3 f.2)))))
      (λ e. let p = ltb-false b c.end e in
      rw (holds_past c b p) (covers_from c.end (not c.extension) cs k.3 f.2 b p))

  -- If the components are end to end from 0, exactly the bytes below the last end are covered.
  pub covers_last : (cs : List Component) → Linked more 0 false cs → Fields cs → (b : ℕ) → covers cs b ≡ ltb b (last_end cs)
  covers_last cs k f b = covers_from 0 false cs k f b (omega arith)
