-- Neighbours (refusal 7), in four parts, asked of the components as the neighbour rules see them. Each part is a list of tests,
-- one for each component, so that it tells the position of its first fault.
use Rattle.std.specs.Prelude.{ℕ, List, [], ◌∷◌, Bool, true, false, not, ◌&&◌, ◌||◌, eqb}
use Rattle.std.specs.Bool.{beq}
use Rattle.lists.specs.Tests.{every, along, ahead}
use Rattle.layout.specs.declared.Neighbour.{Neighbour}

-- "the first component begins at 0, each next one where the one before ends". `at` is where the one before ends.
abbrev pub begins_at : ℕ → Neighbour → Bool
begins_at at c = eqb c.begin at

-- Where the next component is to begin.
abbrev pub end_of : ℕ → Neighbour → ℕ
end_of at c = c.end

-- The first part, over a list.
abbrev pub begin_tests : List Neighbour → List Bool
begin_tests cs = along begins_at end_of 0 cs

-- "An extension directly follows a component that is not one." `may` says that such a component is directly before.
abbrev pub may_stand : Bool → Bool → Bool
may_stand may extension = not extension || may

-- The same of a component.
abbrev pub follows_ok : Bool → Neighbour → Bool
follows_ok may c = may_stand may c.extension

-- May an extension follow this component?
abbrev pub may_follow : Bool → Neighbour → Bool
may_follow may c = not c.extension

-- The second part, over a list.
abbrev pub follow_tests : List Neighbour → List Bool
follow_tests cs = along follows_ok may_follow false cs

-- "empty (begin = end)"
abbrev pub is_empty : ℕ → ℕ → Bool
is_empty begin end = eqb begin end

-- "A component that is not init is empty (begin = end) exactly if an extension directly follows".
abbrev pub empty_before : Bool → ℕ → ℕ → Bool → Bool
empty_before init begin end extension_follows = init || beq (is_empty begin end) extension_follows

-- The same of a component and those after it: "this is asked once its follower is gathered."
abbrev pub empty_ok : Neighbour → List Neighbour → Bool
empty_ok c [] = true
empty_ok c (d ∷ cs) = empty_before c.init c.begin c.end d.extension

-- The third part, over a list.
abbrev pub empty_tests : List Neighbour → List Bool
empty_tests cs = ahead empty_ok cs

-- "With no more pages wanted, the last component is not empty." `more` says that pages are outstanding.
abbrev pub last_ok : Bool → Neighbour → List Neighbour → Bool
last_ok more c [] = more || not (is_empty c.begin c.end)
last_ok more c (d ∷ cs) = true

-- The fourth part, over a list.
abbrev pub last_tests : Bool → List Neighbour → List Bool
last_tests more cs = ahead (last_ok more) cs

-- The neighbour rule, with pages outstanding or not.
unfoldable pub neighbours_hold : Bool → List Neighbour → Bool
neighbours_hold more cs =
    every (begin_tests cs) && every (follow_tests cs) && every (empty_tests cs) && every (last_tests more cs)
