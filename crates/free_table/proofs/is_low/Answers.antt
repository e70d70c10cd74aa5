-- `free_table::is_low` meets its contract: the first record of the target tells, if there is one.
use Rattle.std.specs.Prelude.{ℕ, ◌≡◌, refl, List, [], ◌∷◌, Option, Some, None, Bool, true, eqb}
use Rattle.std.specs.List.{find}
use Rattle.std.specs.Option.{option_map}
use Rattle.std.proofs.Common.{ap, ◌∙◌}
use denote.Bor.{Bor}
use borrow.Author.Rules.{rules}
use borrow.Author.Tests.{tests}
use Rattle.std.proofs.lemmas.Iterator.{YieldsList-from_slice}
use Rattle.std.proofs.lemmas.Iterator.Search.{find_from_yields_List}
use Rattle.lists.specs.Bools.{bool_cases}
use Rattle.free_table.specs.declared.TargetRecord.{TargetRecord}
use Rattle.free_table.specs.Table.{free_below, is_low}
use Rattle.free_table.proofs.is_low.Goals as goal

-- What the first record of a target says.
abbrev low_by : ℕ → Option TargetRecord → Bool
low_by mark None = true
low_by mark (Some r) = free_below mark r

-- It says whether the target is low.
by_first : (mark : ℕ) (rs : List TargetRecord) (target : ℕ)
    → low_by mark (find (λ (r : TargetRecord). eqb r.target target) rs) ≡ is_low mark rs target
by_first mark [] target = refl
by_first mark (r ∷ rs) target =
    bool_cases (eqb r.target target) (λ e. rw e refl) (λ e. rw e (by_first mark rs target))

pub returns : goal.returns
returns c =
    let first =
    find_from_yields_List (λ (r : TargetRecord). eqb r.target c.args.target) _ _ _ c.find.ensures.ran
    (YieldsList-from_slice c.args.table.now cc) (λ x b q k. search (rules, tests)) in
    let says : (o : Option (Bor TargetRecord)) → c.find.result ≡ o
    → c.is_none_or.result ≡ low_by c.args.mark (option_map (λ b. b.now) o) =
    λ o e. elim o [
      | None ↦ search rules
      | Some b ↦ search (rules, tests)
    ] in
    says c.find.result refl ∙ ap (low_by c.args.mark) first ∙ by_first c.args.mark c.args.table.now c.args.target
