-- The number of the first component rule that a list of components breaks, and the validity of a layout.
use Rattle.std.specs.Prelude.{ℕ, List, Bool, false, cond, ◌&&◌, leb, eqb, length}
use Rattle.lists.specs.Tests.{every}
use Rattle.layout.specs.declared.Component.{Component}
use Rattle.layout.specs.declared.Layout.{Layout}
use Rattle.layout.specs.Records.{view, neighbours_of}
use Rattle.layout.specs.Fields.{field_tests}
use Rattle.layout.specs.Neighbours.{neighbours_hold}
use Rattle.layout.specs.Distinct.{distinct_hold}

-- 7 or 8, the first of them whose rule is broken, or 0. `more` says that pages are outstanding.
abbrev pub later_rule_broken : Bool → List Component → ℕ
later_rule_broken more cs = cond (neighbours_hold more (neighbours_of cs)) (cond (distinct_hold cs) 0 8) 7

-- 6, 7 or 8, the first of them in this order whose rule is broken, or 0: "Among its call's numbers each is given exactly
-- if its condition holds and no lower one's does." (In document 01 the order of a call's numbers is that of size.)
unfoldable pub rule_broken : Bool → List Component → ℕ
rule_broken more cs = cond (every (field_tests cs)) (later_rule_broken more cs) 6

-- "A layout is valid exactly if refusal 1 doesn't apply to it", which is given if it "breaks the rules above, or a layout is
-- not complete". So it is complete; it has 1 to 16 components, as many as its count says; and they keep the rules with no
-- pages outstanding.
unfoldable pub valid : Layout → Bool
valid l =
    l.complete
    && leb 1 l.count
    && leb l.count 16
    && eqb (length (view l)) l.count
    && eqb (rule_broken false (view l)) 0
