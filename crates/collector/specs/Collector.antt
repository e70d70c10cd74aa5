-- A collector, and the rules that one keeps.
use Rattle.std.specs.Prelude.{ℕ, List, Bool, not, ◌&&◌, eqb, leb, length}
use Rattle.std.specs.Bool.{beq}
use Rattle.layout.specs.declared.Component.{Component}
use Rattle.layout.specs.Records.{view, no_layout}
use Rattle.layout.specs.Rules.{rule_broken}
use Rattle.collector.specs.declared.Collector.{Collector}

-- A collector that has taken no page.
abbrev pub new_collector : Collector
new_collector = record { pages = 0; layout = no_layout }

-- The components gathered so far.
abbrev pub gathered : Collector → List Component
gathered c = view c.layout

-- "A collector has taken 0 pages exactly if it has no components, then is not complete, and never has more pages than
-- components".
unfoldable pub counts_agree : ℕ → Bool → ℕ → Bool
counts_agree pages complete components =
    beq (eqb pages 0) (eqb components 0) && not (complete && eqb pages 0) && leb pages components

-- Refusal 1 does not apply to the collector: it has at most 16 components, as many as its count says; its numbers
-- agree; and the gathered components break no rule, as far as it can be asked: if the collector is not complete,
-- pages are outstanding.
unfoldable pub collector_ok : Collector → Bool
collector_ok c =
    leb c.layout.count 16
    && counts_agree c.pages c.layout.complete c.layout.count
    && eqb (length (gathered c)) c.layout.count
    && eqb (rule_broken (not c.layout.complete) (gathered c)) 0
