-- The plans that the code makes of a step, and what a plan says of the components of a layout.
use Rattle.std.specs.Prelude.{ℕ, ◌+◌, ◌-◌, ◌≤◌, ◌≡◌, List, [], ◌∷◌, ◌++◌, Option, Some, None, is_some, Result, Ok, Err, cond, ◌||◌, ltb, eqb, length, take, drop, get_or}
use Rattle.std.specs.Result.{result_unwrap_or}
use Rattle.refusals.specs.declared.Refusal.{Refusal}
use Rattle.refusals.specs.declared.Refusal.TheVariants.{TooFewTargets}
use Rattle.layout.specs.declared.Object.{Object}
use Rattle.layout.specs.declared.Component.{Component}
use Rattle.layout.specs.declared.Layout.{Layout}
use Rattle.layout.specs.Records.{no_component, records_of, records_in, ids_of, view}
use Rattle.free_table.specs.declared.TargetRecord.{TargetRecord}
use Rattle.free_table.specs.Table.{any_low, usable}
use Rattle.free_table.specs.Choosing.{chosen}
use Rattle.growth_rules.specs.Parts.{with_extent, made_init, repeat_base, reach, fresh_id}
use Rattle.growth_rules.specs.Steps.{Call, Step, stays, lacks, changes}
use Rattle.growth_rules.specs.Growing.{meets, step_of}
use Rattle.growth.specs.declared.Change.{Change}

-- What is left of an extension, if bytes are, before other components.
abbrev pub with_left : Option Component → List Component → List Component
with_left None cs = cs
with_left (Some x) cs = x ∷ cs

-- What a change puts in place of its `old` components, before those that follow them.
abbrev pub replacement : Change → List Component → List Component
replacement p cs = p.made ∷ with_left p.left cs

-- How many components these are.
abbrev pub replacement_count : Change → ℕ
replacement_count p = cond (is_some p.left) 2 1

-- The components by a change.
abbrev pub planned : Change → List Component → List Component
planned p cs = take p.at cs ++ replacement p (drop p.old (drop p.at cs))

-- The object records that a change has chosen.
abbrev pub planned_objects : Change → List Object
planned_objects p = take p.chosen p.made.objects

-- The plan of a step: a change or none, or the refusal for want of usable targets.
abbrev pub Plan : Type 0
Plan = Result (Option Change) Refusal

-- The plan that is no refusal.
abbrev pub made_plan : Option Change → Plan
made_plan o = Ok o

-- The plan of a change.
abbrev pub change_plan : Change → Plan
change_plan p = Ok (Some p)

-- The plan of a change that may be refused.
abbrev pub plan_of : Result Change Refusal → Plan
plan_of (Ok p) = change_plan p
plan_of (Err e) = Err e

-- What a plan says of the components of a layout.
unfoldable pub plan_says : Plan → List Component → Step
plan_says (Err e) cs = lacks
plan_says (Ok None) cs = stays
plan_says (Ok (Some p)) cs = changes (planned p cs) (planned_objects p)

-- The number of the refusal of a change, or 0: 17, "growth would leave 17 components"; 18, "a chosen target and number
-- already stand in the layout"; 19, "a change is due and the generation is 2^32 - 1".
unfoldable pub change_refusal : Layout → List Component → List Object → ℕ
change_refusal l cs os =
    cond (ltb 16 (length cs)) 17 (cond (meets os (records_in (view l))) 18 (cond (eqb l.generation 4294967295) 19 0))

-- One component in place of `old` from position `at` on. No extension is left.
abbrev pub replacing : ℕ → ℕ → Component → Change
replacing at old made = record { at = at; old = old; made = made; left = None; chosen = 0 }

-- The component c, which takes a part of the extension x and ends where that part ends, in place of `old` components from
-- position `at` on, and what is left of x.
abbrev pub granting : ℕ → ℕ → Component → Component → ℕ → Change
granting at old c x from =
    record {
      at = at;
      old = old;
      made = with_extent c.begin (reach from x) c;
      left = cond (eqb (reach from x) x.end) None (Some (with_extent (reach from x) x.end x));
      chosen = 0;
    }

-- A change on chosen object records.
abbrev pub on_objects : Change → List Object → Change
on_objects p os =
    record { at = p.at; old = p.old; made = made_init os p.made; left = p.left; chosen = length os }

-- The component m, which begins where the extension at position j + 1 began, before the components cs.
unfoldable pub follow_plan : ℕ → Component → List Component → Change
follow_plan j m [] = replacing (j + 1) 2 m
follow_plan j m (y ∷ cs) = cond y.extension (granting (j + 1) 3 m y m.begin) (replacing (j + 1) 2 m)

module _ (mark : ℕ) (rs : List TargetRecord) where
  -- The change with targets chosen for the component that it makes, if enough are usable.
  unfoldable pub choosing_plan : Change → Result Change Refusal
  choosing_plan p =
      let os = chosen (usable mark) p.made.stripe_count rs in
      cond (eqb (length os) p.made.stripe_count) (Ok (on_objects p os)) (Err TooFewTargets)

  -- The component c at position i holds the offset.
  unfoldable pub held_plan : ℕ → Component → Plan
  held_plan i c = cond (c.init || c.extension) (Ok None) (plan_of (choosing_plan (replacing i 1 c)))

  -- Spill-over onto n, after the extension x at position j + 1, before the components cs.
  unfoldable pub spill_plan : ℕ → Component → Component → List Component → Result Change Refusal
  spill_plan j x n cs =
      let m = with_extent x.begin n.end n in
      cond n.init (Ok (replacing (j + 1) 2 m)) (choosing_plan (follow_plan j m cs))

  module _ (new j : ℕ) (c x : Component) where
    -- The repeat of c, at position j, or the forced extension.
    unfoldable pub repeat_plan : Change
    repeat_plan =
        result_unwrap_or (choosing_plan (granting (j + 1) 1 (repeat_base new x.begin c) x x.begin)) (granting j 2 c x x.begin)

    -- A target of c is low.
    unfoldable pub low_plan : List Component → Result Change Refusal
    low_plan [] = Ok repeat_plan
    low_plan (n ∷ cs) = spill_plan j x n cs

  -- The second of the components, which are from position j on, is an extension and holds the offset.
  unfoldable pub extension_plan : ℕ → ℕ → List Component → Plan
  extension_plan new j [] = Ok None
  extension_plan new j (c ∷ []) = Ok None
  extension_plan new j (c ∷ x ∷ cs) =
      let grant = granting j 2 c x x.begin in
      plan_of
      (cond c.init (cond (any_low mark rs (records_of c)) (low_plan new j c x cs) (Ok grant)) (choosing_plan grant))

  -- The component at position i holds the offset, an extension or not. No extension is first in a valid layout.
  unfoldable pub plan_at : ℕ → List Component → Plan
  plan_at i cs =
      let c = get_or cs i no_component in
      cond c.extension (extension_plan (fresh_id (ids_of cs)) (i - 1) (drop (i - 1) cs)) (held_plan i c)

-- The change is of some of n components, and has chosen at most 16 object records, as many as it says.
pub record IsWithin (p : Change) (n : ℕ) : Type 0 where
  pub within : p.at + p.old ≤ n
  pub few : p.chosen ≤ 16
  pub counted : length (planned_objects p) ≡ p.chosen

-- The same of a plan, if it is a change; if it is a refusal, it is the one for want of usable targets.
abbrev pub PlanWithin : Plan → ℕ → Type 0
PlanWithin (Err e) n = e ≡ TooFewTargets
PlanWithin (Ok None) n = Unit {0}
PlanWithin (Ok (Some p)) n = IsWithin p n

-- The plan is that of the step of a call, of some of the components of the layout.
pub record PlanFor (l : Layout) (k : Call) (p : Plan) : Type 0 where
  pub says : plan_says p (view l) ≡ step_of l k
  pub within : PlanWithin p l.count
