-- What is known of the components of a valid layout.
use Rattle.std.specs.Prelude.{◌≤◌, ◌≡◌, List, true, false, length}
use Rattle.std.proofs.Common.{arith}
use Rattle.layout.specs.declared.Component.{Component}
use Rattle.layout.specs.declared.Layout.{Layout}
use Rattle.layout.specs.Records.{view}
use Rattle.layout.specs.Rules.{rule_broken, valid}
use Rattle.layout.specs.FactLaws.{valid_facts, facts_keep}

-- There is one, there are at most 16, and they keep the component rules.
abbrev pub AreValid : List Component → Type 0
AreValid cs = (1 ≤ length cs) × (length cs ≤ 16) × (rule_broken false cs ≡ 0)

-- That is so of the components of a valid layout.
pub valid_components : (l : Layout) → valid l ≡ true → AreValid (view l)
valid_components l e =
    let v = valid_facts l e in
    (omega (arith, v.some, v.whole), omega (arith, v.few, v.whole), facts_keep false (view l) v.keeps)
