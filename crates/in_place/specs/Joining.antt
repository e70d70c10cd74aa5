-- The rules of fields and of neighbours (6, 7), asked of new components after those that keep the rules already. Only
-- the new ones are asked, and the last of the old.
use Rattle.std.specs.Prelude.{ℕ, List, Bool, true, not, cond, ◌&&◌, ◌||◌, eqb}
use Rattle.lists.specs.Tests.{every, along, after}
use Rattle.layout.specs.declared.Component.{Component}
use Rattle.layout.specs.declared.Neighbour.{Neighbour}
use Rattle.layout.specs.Records.{neighbours_of}
use Rattle.layout.specs.Fields.{field_tests}
use Rattle.layout.specs.Neighbours.{may_stand, is_empty, empty_before}

-- What is taken as the component before the first: it ends at 0, no extension may follow it, and nothing is asked of its
-- own extent.
abbrev pub none_before : Neighbour
none_before = record { init = true; extension = true; begin = 0; end = 0 }

-- The neighbour rules between a component and the one directly before it: it begins where that ends; an extension
-- follows a component that is not one; and that, if not init, is empty exactly if this is an extension.
unfoldable pub joins : Neighbour → Neighbour → Bool
joins before c =
    eqb c.begin before.end
    && may_stand (not before.extension) c.extension
    && empty_before before.init before.begin before.end c.extension

-- The component itself is before the next.
abbrev pub latest : Neighbour → Neighbour → Neighbour
latest before c = c

-- One test for each component of a list after a component.
abbrev pub join_tests : Neighbour → List Neighbour → List Bool
join_tests before cs = along joins latest before cs

-- The last component of a list, or what is before it if it is empty.
abbrev pub last_of : Neighbour → List Neighbour → Neighbour
last_of before cs = after latest before cs

-- The neighbour rules of new components after a component: with no pages outstanding, the last of them is not empty.
unfoldable pub new_join : Bool → Neighbour → List Neighbour → Bool
new_join more before cs =
    let last = last_of before cs in every (join_tests before cs) && (more || not (is_empty last.begin last.end))

-- 6 or 7, the first of them whose rule the new components break after the old ones, or 0.
unfoldable pub new_rule_broken : Bool → List Component → List Component → ℕ
new_rule_broken more old new =
    cond (every (field_tests new)) (cond (new_join more (last_of none_before (neighbours_of old)) (neighbours_of new)) 0 7) 6
