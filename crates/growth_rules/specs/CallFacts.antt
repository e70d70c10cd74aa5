-- What is said of a call of growth and its outcome: that its step is a change that nothing refuses, that it leaves what
-- it was given, and that it changes the layout by its step. `CallLaws` has the laws. What is in quotes is document 01's.
use Rattle.std.specs.Prelude.{◌+◌, ◌≤◌, ◌≡◌, List, true, false, eqb, length}
use Rattle.layout.specs.declared.Object.{Object}
use Rattle.layout.specs.declared.Component.{Component}
use Rattle.layout.specs.declared.Layout.{Layout}
use Rattle.layout.specs.Records.{records_in, view, packed}
use Rattle.layout.specs.Rules.{valid}
use Rattle.free_table.specs.Table.{usable, table_ok}
use Rattle.free_table.specs.Choosing.{raised_first}
use Rattle.growth_rules.specs.Steps.{Call, changes}
use Rattle.growth_rules.specs.Growing.{Outcome, meets, highest_generation, step_of}

-- The step of the call changes the components to cs, with the object records os chosen, and nothing refuses it.
pub record Grown (l : Layout) (k : Call) (cs : List Component) (os : List Object) : Type 0 where
  pub sound : valid l ≡ true
  pub table : table_ok k.table ≡ true
  pub step : step_of l k ≡ changes cs os
  pub few : length cs ≤ 16
  pub apart : meets os (records_in (view l)) ≡ false
  pub below : eqb l.generation highest_generation ≡ false

module _ (l : Layout) (k : Call) where
  -- The layout and the table of an outcome are those that the call was given.
  abbrev pub Leaves : Outcome → Type 0
  Leaves o = (o.layout ≡ l) × (o.table ≡ k.table)

  -- The outcome is a change by the step of the call: "Each change adds 1 to the generation", and in the table the next
  -- numbers of the chosen targets are raised.
  pub record Changes (o : Outcome) : Type 0 where
    pub components : List Component
    pub objects : List Object
    pub why : Grown l k components objects
    pub layout : o.layout ≡ packed (l.generation + 1) components
    pub table : o.table ≡ raised_first (usable k.mark) (length objects) k.table
