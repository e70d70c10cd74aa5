-- The test that the derived `==` of object records makes, and what `contains` answers of a list of them.
use Rattle.std.specs.Prelude.{◌≡◌, refl, List, ◌&&◌, eqb}
use Rattle.std.specs.List.{list_any}
use Rattle.lists.specs.Counting.{elem}
use Rattle.lists.proofs.Found.{list_any-elem, eqb_flip}
use Rattle.layout.specs.declared.Object.{Object}
use Rattle.layout.specs.Distinct.{same_object}

-- Both fields are compared: this is the sameness of the rule of distinctness.
pub equal_same : (a b : Object) → (eqb a.target b.target && eqb a.number b.number) ≡ same_object a b
unfolding same_object
equal_same a b = refl

pub same_flip : (a b : Object) → same_object a b ≡ same_object b a
unfolding same_object
same_flip a b = rw (eqb_flip a.target b.target, eqb_flip a.number b.number)

pub contains_elem : (o : Object) (l : List Object)
    → list_any (λ (a : Object). eqb a.target o.target && eqb a.number o.number) l ≡ elem same_object o l
unfolding same_object
contains_elem o l = list_any-elem same_object same_flip o l
