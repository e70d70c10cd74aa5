-- The loop over new components: what the rules give of those that were asked and those that are left.
use Prim.Native.Nat.{ℕ}
use mathlib.Core.Path.{◌≡◌, refl}
use mathlib.Core.List.{List, [], ◌∷◌}
use mathlib.Core.Bool.{Bool, true, false, not, cond, ◌&&◌, ◌||◌}
use Rattle.lists.specs.Tests.{every}
use Rattle.layout.specs.declared.Component.{Component}
use Rattle.layout.specs.declared.Neighbour.{Neighbour}
use Rattle.layout.specs.Records.{neighbour_of, neighbours_of}
use Rattle.layout.specs.Fields.{fields_ok, field_tests}
use Rattle.layout.specs.Neighbours.{is_empty}
use Rattle.in_place.specs.Joining.{none_before, joins, last_of, new_join, new_rule_broken}

-- 6, 7 or 0, if the components asked so far keep the rules of the fields (`sound`) and join (`joined`), the last of
-- them is `last`, and `cs` are left.
abbrev pub broken_from : Bool → Bool → Bool → Neighbour → List Component → ℕ
broken_from more sound joined last cs =
    cond (sound && every (field_tests cs)) (cond (joined && new_join more last (neighbours_of cs)) 0 7) 6

pub broken_start : (more : Bool) (old new : List Component)
    → new_rule_broken more old new ≡ broken_from more true true (last_of none_before (neighbours_of old)) new
unfolding new_rule_broken
broken_start more old new = refl

and_move : (a b c : Bool) → (a && (b && c)) ≡ ((a && b) && c)
and_move true b c = refl
and_move false b c = refl

and_true : (b : Bool) → (b && true) ≡ b
and_true true = refl
and_true false = refl

and_moves : (a b c d : Bool) → (a && ((b && c) && d)) ≡ ((a && b) && (c && d))
and_moves true true c d = refl
and_moves true false c d = refl
and_moves false b c d = refl

module _ (more sound joined : Bool) (last : Neighbour) where
  pub broken_next : (c : Component) (cs : List Component)
      → broken_from more sound joined last (c ∷ cs)
      ≡ broken_from more (sound && fields_ok c) (joined && joins last (neighbour_of c)) (neighbour_of c) cs
  unfolding new_join
  broken_next c cs = rw (
    and_move sound (fields_ok c) (every (field_tests cs)),
    and_moves joined (joins last (neighbour_of c)) _ _,
  )

  pub broken_done : broken_from more sound joined last []
      ≡ cond sound (cond (joined && (more || not (is_empty last.begin last.end))) 0 7) 6
  unfolding new_join
  broken_done = rw (and_true sound)
