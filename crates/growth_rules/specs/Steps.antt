-- The step that a call of growth makes on the components of a layout, case by case. What is in quotes is document 01's.
use Rattle.std.specs.Prelude.{ℕ, List, [], ◌∷◌, cond, ◌&&◌, ◌||◌, eqb, length}
use Rattle.layout.specs.declared.Object.{Object}
use Rattle.layout.specs.declared.Component.{Component}
use Rattle.layout.specs.Records.{records_of}
use Rattle.layout.specs.Holder.{holds}
use Rattle.free_table.specs.declared.TargetRecord.{TargetRecord}
use Rattle.free_table.specs.Table.{any_low, usable}
use Rattle.free_table.specs.Choosing.{chosen}
use Rattle.growth_rules.specs.Parts.{with_extent, made_init, repeat_of, reach, leaving, granting, following}

-- "A call has a layout, an offset, a low mark and a table." This is what a call has beside the layout.
pub record Call : Type 0 where
  pub offset : ℕ
  pub mark : ℕ
  pub table : List TargetRecord

-- What a step makes of components: they stay as they are; there are too few usable targets to choose from; or others are in
-- their place, with these object records chosen.
pub data Step : Type 0 where
  stays : Step
  lacks : Step
  changes : List Component → List Object → Step

-- A step with a component before those that it is made on.
abbrev pub step_after : Component → Step → Step
step_after c stays = stays
step_after c lacks = lacks
step_after c (changes cs os) = changes (c ∷ cs) os

module _ (k : Call) where
  -- s targets are chosen, and `made` gives the components by the chosen object records; `other` if fewer than s are usable.
  unfoldable pub choosing : ℕ → (List Object → List Component) → Step → Step
  choosing s made other =
      let os = chosen (usable k.mark) s k.table in cond (eqb (length os) s) (changes (made os) os) other

  -- The component c, before the components cs, holds the offset. "Init: no change, accepted." "Not init, no extension: choose
  -- targets (else 16), make it init." (No extension is without a component directly before it.)
  unfoldable pub held_step : Component → List Component → Step
  held_step c cs = cond (c.init || c.extension) stays (choosing c.stripe_count (λ os. made_init os c ∷ cs) lacks)

  -- "spill-over. X goes. The next component N begins where X began. If N is init, nothing else changes. If N isn't init, choose for
  -- it (else 16) and make it init, and then .."
  unfoldable pub spill_step : Component → Component → Component → List Component → Step
  spill_step c x n cs =
      cond n.init (changes (c ∷ with_extent x.begin n.end n ∷ cs) [])
      (choosing n.stripe_count (λ os. c ∷ following x.begin (made_init os n) cs) lacks)

  module _ (new : ℕ) where
    -- "C has a low target, X not last: spill-over." "C has a low target, X last: repeat. A new init component before X .. takes the
    -- grant". "As above with fewer than S usable: forced extension, C takes the grant." `new` is the id of a new component.
    unfoldable pub low_step : Component → Component → List Component → Step
    low_step c x [] =
        choosing c.stripe_count
        (λ os. c ∷ repeat_of new c x.begin (reach x.begin x) os ∷ leaving (reach x.begin x) x [])
        (changes (granting c x []) [])
    low_step c x (n ∷ cs) = spill_step c x n cs

    -- The extension x, directly after c and before the components cs, holds the offset. "Extension X after C, C not init: choose
    -- for C (else 16); made init, it takes a grant." "C init, none of its targets low: C takes a grant."
    unfoldable pub extension_step : Component → Component → List Component → Step
    extension_step c x cs =
        cond c.init
        (cond (any_low k.mark k.table (records_of c)) (low_step c x cs) (changes (granting c x cs) []))
        (choosing c.stripe_count (λ os. granting (made_init os c) x cs) lacks)

    -- "One call makes one step, for the component that holds the offset". The components before it, and before the component of an
    -- extension that holds it, stay.
    unfoldable pub step_on : List Component → Step
    step_on [] = stays
    step_on (c ∷ []) = cond (holds c k.offset) (held_step c []) stays
    step_on (c ∷ x ∷ cs) =
        cond (holds c k.offset) (held_step c (x ∷ cs))
        (cond (x.extension && holds x k.offset) (extension_step c x cs) (step_after c (step_on (x ∷ cs))))
