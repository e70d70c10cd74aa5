-- `growth::outcomes::is_among` meets its contract.
use Rattle.std.specs.Prelude.{◌≡◌, refl, List, [], ◌∷◌, ◌++◌, Bool, ◌||◌}
use Rattle.std.proofs.Common.{ap, ◌∙◌}
use borrow.Author.Rules.{rules}
use borrow.Author.Tests.{tests}
use Rattle.std.proofs.lemmas.Iterator.{YieldsList-from_slice}
use Rattle.lists.specs.Bools.{bool_cases}
use Rattle.lists.specs.Tests.{any_of}
use Rattle.lists.specs.Counting.{elem}
use Rattle.lists.proofs.Iterators.{any_of-any}
use Rattle.layout.specs.declared.Object.{Object}
use Rattle.layout.specs.declared.Component.{Component}
use Rattle.layout.specs.Records.{records_of, records_in}
use Rattle.layout.specs.Distinct.{same_object}
use Rattle.growth.proofs.outcomes.is_among.Goals as goal

-- An object is in one of two lists if it is in the one or the other.
either : (o : Object) (l m : List Object) → (elem same_object o l || elem same_object o m) ≡ elem same_object o (l ++ m)
either o [] m = refl
either o (x ∷ l) m = bool_cases (same_object o x) (λ e. rw e) (λ e. rw e (either o l m))

-- It is among the object records of the components if it is among those of one of them.
in_one : (o : Object) (cs : List Component)
    → any_of (λ (c : Component). elem same_object o (records_of c)) cs ≡ elem same_object o (records_in cs)
in_one o [] = refl
in_one o (c ∷ cs) =
    ap (λ (t : Bool). elem same_object o (records_of c) || t) (in_one o cs) ∙ either o (records_of c) (records_in cs)

pub returns : goal.returns
returns c =
    any_of-any (λ (d : Component). elem same_object c.args.o (records_of d)) _ _ _ c.any.ensures.ran
    (YieldsList-from_slice c.args.components.now cc) (λ x b q k. search (rules, tests))
    ∙ in_one c.args.o c.args.components.now
