-- What a step of growth keeps of the components that it is made on.
use Rattle.std.specs.Prelude.{ℕ, ◌+◌, ◌≤◌, ◌<◌, ◌≡◌, List, [], ◌∷◌, Bool, true, false, eqb, length, get_or}
use Rattle.std.proofs.Math.Option.{some}
use Rattle.lists.specs.Tests.{after}
use Rattle.lists.specs.Counting.{count}
use Rattle.layout.specs.declared.Object.{Object}
use Rattle.layout.specs.declared.Component.{Component}
use Rattle.layout.specs.Records.{no_object, ids_of, neighbours_of, records_of, records_in}
use Rattle.layout.specs.Neighbours.{end_of}
use Rattle.layout.specs.Distinct.{same_object}
use Rattle.layout.specs.Facts.{IsInit, Fields, Linked}
use Rattle.layout.specs.FactLaws.{starts_extension}
use Rattle.mapping.specs.Homes.{reading_of}
use Rattle.growth_rules.specs.Parts.{NoExtent}
use Rattle.growth_rules.specs.Steps.{Step, stays, lacks, changes}

-- Where the last component of a list that is from `from` on ends.
abbrev pub end_from : ℕ → List Component → ℕ
end_from from cs = after end_of from (neighbours_of cs)

-- The components t were from `from` on; t' are in their place, from `to` on, with the object records os and the ids `new`
-- added. The fields and neighbours are in order, what a reading gave it gives, the last end stays, every object record stays,
-- and no id is added beside the new ones.
pub record Replaced (from to : ℕ) (may : Bool) (t t' : List Component) (os : List Object) (new : List ℕ) : Type 1 where
  pub fields : Fields t'
  pub linked : Linked false to may t'
  pub readings : {A : Type 0} (read : Component → ℕ → A) → NoExtent read → (b : ℕ) (a : A) → reading_of read b t ≡ some a
      → reading_of read b t' ≡ some a
  pub ends : end_from to t' ≡ end_from from t
  pub objects : (o : Object) → count same_object o (records_in t') ≡ count same_object o (records_in t) + count same_object o os
  pub ids : (i : ℕ) → count eqb i (ids_of t') ≤ count eqb i (ids_of t) + count eqb i new

-- The component c' is init and replaces c: with c's id, and if c is init with its readings, but for the extent; it has c's
-- object records and the records os.
pub record Renewed (c c' : Component) (os : List Object) : Type 1 where
  pub kind : IsInit c'
  pub id : c'.id ≡ c.id
  pub readings : {A : Type 0} (read : Component → ℕ → A) → NoExtent read → c.init ≡ true → (b : ℕ) → read c' b ≡ read c b
  pub objects : (o : Object) → count same_object o (records_of c') ≡ count same_object o (records_of c) + count same_object o os

-- The object records os are chosen for s stripes.
pub record Chosen (s : ℕ) (os : List Object) : Type 0 where
  pub enough : length os ≡ s
  pub targets : (i : ℕ) → i < length os → (get_or os i no_object).target ≤ 65534
  pub once : (o : Object) → count same_object o os ≤ 1

-- A change of the components t that are from `at` on, with `new` as the only id that may be added: there is a component
-- afterwards, it is an extension exactly if the one before was, and no object record is added twice.
pub record Changed (new at : ℕ) (may : Bool) (t t' : List Component) (os : List Object) : Type 1 where
  pub some : 1 ≤ length t'
  pub first : starts_extension t' ≡ starts_extension t
  pub once : (o : Object) → count same_object o os ≤ 1
  pub replaced : Replaced at at may t t' os (new ∷ [])

-- What a step on these components makes of them is such a change, if it changes them.
abbrev pub StepKeeps : ℕ → ℕ → Bool → List Component → Step → Type 1
StepKeeps new at may t stays = Unit {1}
StepKeeps new at may t lacks = Unit {1}
StepKeeps new at may t (changes t' os) = Changed new at may t t' os
