-- Laws of the components that a change makes: how many they are, and how they come to be in the array.
use Rattle.std.specs.Prelude.{ℕ, suc, Option, Some, None, is_some, cond, ◌+◌, ◌-◌, ◌≤◌, ◌≡◌, List, ◌++◌, length, take, drop}
use Rattle.std.proofs.Common.{ap, ◌∙◌, arith, length-append, length-take, length-drop, take-take, drop-drop, length-take-le}
use Rattle.std.proofs.lemmas.List.Edits.{sets, sets-eq}
use Rattle.std.proofs.Math.Seq.{slice, length-slice, take-append_seam}
use Rattle.lists.specs.Bools.{bool_cases}
use Rattle.layout.specs.declared.Component.{Component}
use Rattle.growth.specs.declared.Change.{Change}
use Rattle.growth.specs.Plans.{with_left, replacement, replacement_count, planned}

module _ (p : Change) where
  -- A change puts one component or two there.
  pub replacement_some : 1 ≤ replacement_count p
  replacement_some = bool_cases (is_some p.left) (λ e. rw e (omega arith)) (λ e. rw e (omega arith))

  -- They are before those that follow.
  pub replacement_length : (cs : List Component) → length (replacement p cs) ≡ replacement_count p + length cs
  replacement_length cs = left_length p.left
    where
      left_length : (o : Option Component) → suc (length (with_left o cs)) ≡ cond (is_some o) 2 1 + length cs
      left_length None = omega arith
      left_length (Some x) = omega arith

  -- The number of components by a change.
  pub planned_length : (cs : List Component) → p.at + p.old ≤ length cs
      → length (planned p cs) ≡ length cs - p.old + replacement_count p
  planned_length cs h =
      let rest = drop p.old (drop p.at cs) in
      omega (
        arith,
        length-append (take p.at cs) (replacement p rest),
        length-take p.at cs,
        replacement_length rest,
        length-drop p.old (drop p.at cs),
        length-drop p.at cs,
      )

  -- What the change puts there, stored in the array with the components that follow, makes the components by the change.
  pub spliced_planned : (list : List Component) (n : ℕ) → n ≤ length list → p.at + p.old ≤ n
      → n + replacement_count p ≤ length list + p.old
      → take (n - p.old + replacement_count p) (sets list p.at (replacement p (slice (p.at + p.old) n list)))
      ≡ planned p (take n list)
  spliced_planned list n h w few =
      let a = p.at in
      let rest = slice (a + p.old) n list in
      let xs = replacement p rest in
      let s = replacement_length rest in
      let r = length-slice (a + p.old) n list h in
      let front = take a list ++ xs in
      let m : n - p.old + replacement_count p ≡ length front =
      omega (arith, length-append (take a list) xs, length-take-le a list (omega arith)) in
      ap (λ (l : List Component). take (n - p.old + replacement_count p) l) (sets-eq xs list a (omega arith))
      ∙ ap (λ (k : ℕ). take k (front ++ drop (a + length xs) list)) m
      ∙ take-append_seam front (drop (a + length xs) list)
      ∙ rw (take-take a n list (omega arith), drop-drop p.old a (take n list))
