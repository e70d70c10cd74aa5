-- What a call of growth comes to, in three cases.
use Rattle.std.specs.Prelude.{◌≡◌, true, ltb, leb, eqb, length}
use Rattle.std.proofs.Math.Path.{refl}
use borrow.Author.Tests.{ltb-false}
use Rattle.lists.specs.Bools.{cond_elim}
use Rattle.layout.specs.declared.Layout.{Layout}
use Rattle.layout.specs.Records.{records_in, view}
use Rattle.layout.specs.Rules.{valid}
use Rattle.layout.specs.Holder.{last_end}
use Rattle.free_table.specs.Table.{table_ok}
use Rattle.growth_rules.specs.Steps.{Call, Step, stays, lacks, changes}
use Rattle.growth_rules.specs.Growing.{meets, highest_generation, step_of}
use Rattle.growth_rules.specs.Growing.{outcome_of, grow_in, grow_of}
use Rattle.growth_rules.specs.CallCases.{Called, refused, unchanged, grown}

module _ (l : Layout) (k : Call) where
  -- The cases of a step, on a valid layout with a table that is not bad.
  step_cases : valid l ≡ true → table_ok k.table ≡ true → (s : Step) → step_of l k ≡ s → Called l k (outcome_of l k s)
  unfolding outcome_of
  step_cases v t stays e = unchanged
  step_cases v t lacks e = refused 16 refl
  step_cases v t (changes cs os) e =
      cond_elim (Called l k) (ltb 16 (length cs)) (λ q. refused 17 refl)
      (λ few. cond_elim (Called l k) (meets os (records_in (view l))) (λ q. refused 18 refl)
      (λ apart. cond_elim (Called l k) (eqb l.generation highest_generation) (λ q. refused 19 refl)
      (λ below. grown cs os
      record { sound = v; table = t; step = e; few = ltb-false 16 (length cs) few; apart = apart; below = below })))

  -- A call comes to one of the three.
  pub call_cases : Called l k (grow_of l k)
  unfolding grow_of grow_in
  call_cases =
      cond_elim (Called l k) (valid l)
      (λ v. cond_elim (Called l k) (leb (last_end (view l)) k.offset) (λ e. refused 10 refl)
      (λ e. cond_elim (Called l k) (table_ok k.table) (λ t. step_cases v t (step_of l k) refl) (λ t. refused 15 refl)))
      (λ v. refused 1 refl)
