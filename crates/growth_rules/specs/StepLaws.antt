-- The step of a call by the position of the component that holds the offset. What is said to be past the end of a list, d,
-- does not matter.
use Rattle.std.specs.Prelude.{ℕ, zero, suc, ◌<◌, ◌≡◌, refl, Bool, true, false, ◌&&◌, ltb, leb, length, get_or, take, drop}
use Rattle.std.proofs.Common.{sym, ap, ◌∙◌, arith, ltb-true, ltb-false, le-leb}
use mathlib.Core.List.{List, [], ◌∷◌, ◌++◌}
use Rattle.std.proofs.lemmas.Bool.{lt-leb}
use Rattle.lists.specs.Bools.{bool_cases, clash, true_both}
use Rattle.layout.specs.declared.Object.{Object}
use Rattle.layout.specs.declared.Component.{Component}
use Rattle.layout.specs.Holder.{holds, holder_of, last_end}
use Rattle.layout.specs.Facts.{Fields, Linked}
use Rattle.layout.specs.HolderLaws.{covers_holder, covers_last}
use Rattle.growth_rules.specs.Steps.{Call, Step, stays, lacks, changes, step_after, held_step, extension_step, step_on}

-- A step with components before those that it is made on.
abbrev pub step_after_all : List Component → Step → Step
step_after_all [] s = s
step_after_all (c ∷ cs) s = step_after c (step_after_all cs s)

-- What a step changes, it changes after them; it stays or lacks targets as without them.
pub after_changes : (before cs : List Component) (os : List Object)
    → step_after_all before (changes cs os) ≡ changes (before ++ cs) os
after_changes [] cs os = refl
after_changes (c ∷ before) cs os = ap (step_after c) (after_changes before cs os)

pub after_stays : (before : List Component) → step_after_all before stays ≡ stays
after_stays [] = refl
after_stays (c ∷ before) = ap (step_after c) (after_stays before)

pub after_lacks : (before : List Component) → step_after_all before lacks ≡ lacks
after_lacks [] = refl
after_lacks (c ∷ before) = ap (step_after c) (after_lacks before)

-- An extension is never first in a list that keeps the neighbour rule: if one holds a byte, a component is before it.
pub extension_after : (more : Bool) (at : ℕ) (cs : List Component) (d : Component) (i : ℕ) → Linked more at false cs
    → i < length cs → (get_or cs i d).extension ≡ true → 0 < i
extension_after more at [] d i k h e = absurd (omega arith)
extension_after more at (c ∷ cs) d zero k h e = clash (k.1 e) refl
extension_after more at (c ∷ cs) d (suc i) k h e = omega arith

-- In a list that keeps the rules of fields and neighbours, 10 applies to a byte exactly if no component holds it.
pub past_holder : (more : Bool) (cs : List Component) → Linked more 0 false cs → Fields cs → (b : ℕ)
    → leb (last_end cs) b ≡ leb (length cs) (holder_of b cs)
past_holder more cs l f b =
    let held : ltb (holder_of b cs) (length cs) ≡ ltb b (last_end cs) = sym (covers_holder b cs) ∙ covers_last more cs l f b in
    bool_cases (ltb b (last_end cs))
    (λ e. lt-leb (last_end cs) b (ltb-true b (last_end cs) e)
    ∙ sym (lt-leb (length cs) (holder_of b cs) (ltb-true (holder_of b cs) (length cs) (held ∙ e))))
    (λ e. le-leb (last_end cs) b (ltb-false b (last_end cs) e)
    ∙ sym (le-leb (length cs) (holder_of b cs) (ltb-false (holder_of b cs) (length cs) (held ∙ e))))

-- A conjunction fails if one of its tests does.
left_fails : (a b : Bool) → a ≡ false → (a && b) ≡ false
left_fails a b e = rw e

right_fails : (a b : Bool) → b ≡ false → (a && b) ≡ false
right_fails true b e = e
right_fails false b e = refl

module _ (k : Call) (new : ℕ) where
  -- The step if the first component holds the offset,
  first_holds : (c : Component) (cs : List Component) → holds c k.offset ≡ true → step_on k new (c ∷ cs) ≡ held_step k c cs
  unfolding step_on
  first_holds c [] e = rw e
  first_holds c (x ∷ cs) e = rw e

  module _ (c x : Component) (cs : List Component) (out : holds c k.offset ≡ false) where
    -- if an extension directly after the first does,
    second_holds : (x.extension && holds x k.offset) ≡ true → step_on k new (c ∷ x ∷ cs) ≡ extension_step k new c x cs
    unfolding step_on
    second_holds e = rw (out, e)

    -- and if neither does.
    later_holds : (x.extension && holds x k.offset) ≡ false → step_on k new (c ∷ x ∷ cs) ≡ step_after c (step_on k new (x ∷ cs))
    unfolding step_on
    later_holds e = rw (out, e)

  module _ (d : Component) where
    -- If the component that holds the offset is no extension, the step is made for it, and those before it stay.
    pub held_step_lem : (cs : List Component) (i : ℕ) → holder_of k.offset cs ≡ i → i < length cs → (get_or cs i d).extension ≡ false
        → step_on k new cs ≡ step_after_all (take i cs) (held_step k (get_or cs i d) (drop (suc i) cs))
    held_step_lem [] i e h x = absurd (omega arith)
    held_step_lem (c ∷ cs) zero e h x =
        bool_cases (holds c k.offset) (λ q. first_holds c cs q) (λ q. absurd (omega (arith, rw q at e)))
    held_step_lem (c ∷ []) (suc i) e h x = absurd (omega arith)
    held_step_lem (c ∷ y ∷ cs) (suc i) e h x =
        bool_cases (holds c k.offset) (λ q. absurd (omega (arith, rw q at e)))
        (λ q. let there : holder_of k.offset (y ∷ cs) ≡ i = omega (arith, rw q at e) in
        later_holds c y cs q (not_second y cs i there x)
        ∙ ap (step_after c) (held_step_lem (y ∷ cs) i there (omega arith) x))
      where
        not_second : (y : Component) (cs : List Component) (i : ℕ) → holder_of k.offset (y ∷ cs) ≡ i
            → (get_or (y ∷ cs) i d).extension ≡ false → (y.extension && holds y k.offset) ≡ false
        not_second y cs zero e x = left_fails y.extension (holds y k.offset) x
        not_second y cs (suc i) e x =
            bool_cases (holds y k.offset) (λ q. absurd (omega (arith, rw q at e)))
            (λ q. right_fails y.extension (holds y k.offset) q)

    -- If it is an extension, the step is made for it and the component directly before it, and those before the two stay.
    pub extension_step_lem : (cs : List Component) (j : ℕ) → holder_of k.offset cs ≡ suc j → suc j < length cs
        → (get_or cs (suc j) d).extension ≡ true
        → step_on k new cs
        ≡ step_after_all (take j cs) (extension_step k new (get_or cs j d) (get_or cs (suc j) d) (drop (suc (suc j)) cs))
    extension_step_lem [] j e h x = absurd (omega arith)
    extension_step_lem (c ∷ []) j e h x = absurd (omega arith)
    extension_step_lem (c ∷ y ∷ cs) zero e h x =
        bool_cases (holds c k.offset) (λ q. absurd (omega (arith, rw q at e)))
        (λ q. bool_cases (holds y k.offset) (λ r. second_holds c y cs q (true_both x r))
        (λ r. absurd (omega (arith, rw (q, r) at e))))
    extension_step_lem (c ∷ y ∷ cs) (suc j) e h x =
        bool_cases (holds c k.offset) (λ q. absurd (omega (arith, rw q at e)))
        (λ q. bool_cases (holds y k.offset) (λ r. absurd (omega (arith, rw (q, r) at e)))
        (λ r. later_holds c y cs q (right_fails y.extension (holds y k.offset) r)
        ∙ ap (step_after c) (extension_step_lem (y ∷ cs) j (omega (arith, rw q at e)) (omega arith) x)))
