-- `growth::components::has_id` meets its contract.
use Rattle.std.specs.Prelude.{ℕ, ◌≡◌, refl, List, [], ◌∷◌, Bool, ◌||◌, eqb}
use Rattle.std.proofs.Common.{ap, ◌∙◌}
use borrow.Author.Rules.{rules}
use borrow.Author.Tests.{tests}
use Rattle.std.proofs.lemmas.Iterator.{YieldsList-from_slice}
use Rattle.lists.specs.Tests.{any_of}
use Rattle.lists.specs.Counting.{elem}
use Rattle.lists.proofs.Iterators.{any_of-any}
use Rattle.layout.specs.declared.Component.{Component}
use Rattle.layout.specs.Records.{ids_of}
use Rattle.growth.proofs.components.has_id.Goals as goal

-- What is asked of the components is asked of their ids.
of_ids : (id : ℕ) (cs : List Component) → any_of (λ (c : Component). eqb id c.id) cs ≡ elem eqb id (ids_of cs)
of_ids id [] = refl
of_ids id (c ∷ cs) = ap (λ (t : Bool). eqb id c.id || t) (of_ids id cs)

pub returns : goal.returns
returns c =
    any_of-any (λ (d : Component). eqb c.args.id d.id) _ _ _ c.any.ensures.ran
    (YieldsList-from_slice c.args.components.now cc) (λ x b q k. search (rules, tests))
    ∙ of_ids c.args.id c.args.components.now
