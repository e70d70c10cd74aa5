-- The components of a valid layout, by their places in its array. What is said to be past the end of a list, d, does
-- not matter.
use Rattle.std.specs.Prelude.{ℕ, zero, suc, ◌+◌, ◌-◌, ◌<◌, ◌≡◌, List, [], ◌∷◌, length, get_or, take}
use Rattle.std.proofs.Common.{ap, ◌∙◌, arith, length-take, get_or-take}
use Rattle.std.proofs.lemmas.List.{map-append}
use Rattle.std.proofs.Math.Seq.{slice}
use Rattle.lists.specs.Tests.{after_append}
use Rattle.lists.specs.Slices.{slice_next, take_next, any_default}
use Rattle.layout.specs.declared.Component.{Component}
use Rattle.layout.specs.declared.Layout.{Layout}
use Rattle.layout.specs.Records.{no_component, view}
use Rattle.layout.specs.Holder.{last_end}
use Rattle.layout.specs.Facts.{Kind, Fields, Valid}

-- Each component of a list that keeps the rule of the fields is of one of the three kinds.
pub kind_at : (cs : List Component) → Fields cs → (d : Component) (i : ℕ) → i < length cs → Kind (get_or cs i d)
kind_at [] f d i h = absurd (omega arith)
kind_at (c ∷ cs) f d zero h = f.1
kind_at (c ∷ cs) f d (suc i) h = kind_at cs f.2 d i (omega arith)

module _ (l : Layout) (v : Valid l) (d : Component) where
  module _ (i : ℕ) (h : i < l.count) where
    -- A place below the count is one of the array,
    in_array : i < length l.components
    in_array = omega (arith, v.whole, length-take l.count l.components)

    -- and what is there is the component at that position.
    pub component_at_lem : get_or (view l) i no_component ≡ get_or l.components i d
    component_at_lem =
        any_default (view l) i no_component d (omega (arith, v.whole)) ∙ get_or-take l.count l.components i d h

    -- It is of one of the three kinds.
    pub component_kind : Kind (get_or l.components i d)
    component_kind = rw component_at_lem at (kind_at (view l) v.keeps.fields no_component i (omega (arith, v.whole)))

    -- The components from i on are component i and those after it.
    pub component_next : slice i l.count l.components
        ≡ get_or l.components i d ∷ slice (i + 1) l.count l.components
    component_next = slice_next l.components l.count i d h in_array

  -- The last component is at the place one below the count, and the last end is its end.
  pub last_end_lem : last_end (view l) ≡ (get_or l.components (l.count - 1) d).end
  last_end_lem =
      let n : l.count ≡ l.count - 1 + 1 = omega (arith, v.some) in
      let h : l.count - 1 < length l.components = in_array (l.count - 1) (omega (arith, v.some)) in
      ap (λ (k : ℕ). last_end (take k l.components)) n
      ∙ rw (take_next l.components (l.count - 1) d h, map-append, after_append)
