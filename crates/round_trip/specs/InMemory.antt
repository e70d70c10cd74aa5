-- The components of a valid layout in memory are such as a page can hold.
use Rattle.std.specs.Prelude.{ℕ, ◌≤◌, ◌≡◌, List, [], ◌∷◌, true}
use Rattle.std.proofs.Common.{arith}
use Rattle.lists.specs.Bools.{cond_elim}
use Rattle.layout.specs.declared.Component.{Component}
use Rattle.layout.specs.declared.Layout.{Layout}
use Rattle.layout.specs.Records.{record_count, view}
use Rattle.layout.specs.Rules.{valid}
use Rattle.layout.specs.Facts.{Kind, Fields}
use Rattle.layout.specs.FactLaws.{kind_few, kind_records, valid_facts}
use Rattle.page.specs.Same.{AllFit}
use Rattle.round_trip.specs.Pages.{AllNumbersFit, InMemory}

-- A component that keeps refusal 6's rule is to have at most 16 object records.
pub kind_count : {c : Component} → Kind c → record_count c ≤ 16
kind_count {c} k = cond_elim (λ (n : ℕ). n ≤ 16) c.init (λ i. kind_few k) (λ i. omega arith)

-- A component that keeps refusal 6's rule and whose numbers fit is one that a page can hold.
components_fit : (cs : List Component) → Fields cs → AllNumbersFit cs → AllFit cs
components_fit [] f n = tt
components_fit (c ∷ cs) f n =
    (record { fit = n.0; whole = kind_records f.1; few = kind_count f.1 }, components_fit cs f.2 n.1)

-- The components of a valid layout in memory are such as a page can hold.
pub layout_fits : (l : Layout) → valid l ≡ true → InMemory l → AllFit (view l)
layout_fits l e m = components_fit (view l) (valid_facts l e).keeps.fields m.components
