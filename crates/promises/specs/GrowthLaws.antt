-- What a call of growth that changes the layout chooses and raises in its table. What is in quotes is document 01's.
use Rattle.std.specs.Prelude.{ℕ, ◌<◌, ◌≡◌, List, map, true, leb, length, get_or}
use Rattle.std.proofs.Common.{sym, ap, subst, ◌∙◌}
use Rattle.lists.specs.Bools.{both_true}
use Rattle.layout.specs.declared.Object.{Object}
use Rattle.layout.specs.declared.Layout.{Layout}
use Rattle.layout.specs.Records.{no_object}
use Rattle.free_table.specs.declared.TargetRecord.{TargetRecord}
use Rattle.free_table.specs.Table.{no_record, rising, table_ok, usable}
use Rattle.free_table.specs.Choosing.{chosen}
use Rattle.free_table.specs.ChosenFacts.{NextOf, ChosenOrHigher, raised_in}
use Rattle.free_table.proofs.ChosenLaws.{chosen_usable, chosen_lowest, raised_chosen}
use Rattle.growth_rules.specs.Steps.{Call}
use Rattle.growth_rules.specs.Growing.{grow_of}
use Rattle.growth_rules.specs.CallFacts.{Changes}
use Rattle.growth_rules.proofs.CallLaws.{step_chosen}

-- In a table that is not bad the targets rise.
table_rises : (rs : List TargetRecord) → table_ok rs ≡ true → rising 0 rs ≡ true
unfolding table_ok
table_rises rs e = (both_true (leb (length rs) 64) (rising 0 rs) e).1

module _ (l : Layout) (k : Call) (g : Changes l k (grow_of l k)) where
  -- The objects of the change are the first that may be chosen.
  objects_chosen : chosen (usable k.mark) (length g.objects) k.table ≡ g.objects
  objects_chosen = sym (step_chosen l k g.components g.objects g.why.step)

  -- Each object chosen is the next one of a usable target of the table.
  pub grown_usable : (j : ℕ) → j < length g.objects
      → NextOf (usable k.mark) k.table (get_or g.objects j no_object)
  grown_usable =
      subst (λ (os : List Object). (j : ℕ) → j < length os → NextOf (usable k.mark) k.table (get_or os j no_object))
      objects_chosen (chosen_usable (usable k.mark) (length g.objects) k.table)

  -- "the S usable ones with the lowest targets": a usable target is chosen, or S are chosen, all of them lower.
  pub grown_lowest : (i : ℕ) → i < length k.table → usable k.mark (get_or k.table i no_record) ≡ true
      → ChosenOrHigher (length g.objects) g.objects (get_or k.table i no_record)
  grown_lowest i h u =
      let s = length g.objects in
      let rises = table_rises k.table g.why.table in
      subst (λ (os : List Object). ChosenOrHigher s os (get_or k.table i no_record)) objects_chosen
      (chosen_lowest (usable k.mark) 0 s k.table rises i h u)

  -- "Nothing else in the table changes": the records whose next objects were chosen are raised, and the others stay.
  pub grown_table : (grow_of l k).table ≡ map (raised_in g.objects) k.table
  grown_table =
      let rises = table_rises k.table g.why.table in
      g.table
      ∙ raised_chosen (usable k.mark) 0 (length g.objects) k.table rises
      ∙ ap (λ (os : List Object). map (raised_in os) k.table) objects_chosen
