-- Back, from a home to its file byte (1, 13, 14). What is in quotes is document 01's.
use Rattle.std.specs.Prelude.{ℕ, Result, Ok, Err, ◌^◌, List, cond, ◌&&◌, leb, ltb, get_or}
use Rattle.lists.specs.Tests.{first_that}
use Rattle.lists.specs.Counting.{elem}
use Rattle.refusals.specs.declared.Refusal.{Refusal}
use Rattle.refusals.specs.Refusals.{number_of}
use Rattle.stripe.specs.Stripe.{file_byte}
use Rattle.layout.specs.declared.Object.{Object}
use Rattle.layout.specs.declared.Component.{Component}
use Rattle.layout.specs.declared.Layout.{Layout}
use Rattle.layout.specs.Records.{no_component, records_of, records_in, view}
use Rattle.layout.specs.Distinct.{same_object}
use Rattle.mapping.specs.Answers.{Answer, gives, refuses, answer, checked}
use Rattle.mapping.specs.Homes.{Home, in_object}

-- The position of the first object record that names the object, from 0; the number of records if none does.
abbrev pub position_in : Object → List Object → ℕ
position_in o os = first_that (same_object o) os

-- The position of the first component with an object record that names the object, from 0; the number of components
-- if there is none.
abbrev pub owner_of : Object → List Component → ℕ
owner_of o cs = first_that (λ (c : Component). elem same_object o (records_of c)) cs

-- The component of an object of the layout.
abbrev pub owner : Object → List Component → Component
owner o cs = get_or cs (owner_of o cs) no_component

-- The file byte of object byte p by a component: "where the object is stripe i of its component, ((p / z) x S + i) x z
-- + p mod z, division rounded down".
unfoldable pub file_byte_in : Component → Object → ℕ → ℕ
file_byte_in c o p = file_byte c.stripe_size c.stripe_count (position_in o (records_of c)) p

-- The number of the refusal of the file byte b that was found back by a component from `begin` to `end`, or 0: 14,
-- "object byte hidden: its file offset is outside its component, or not below 2^64".
unfoldable pub hidden_refusal : ℕ → ℕ → ℕ → ℕ
hidden_refusal begin end b = cond (leb begin b && ltb b end && ltb b (2 ^ 64)) 0 14

-- The number of the refusal to go back from a home, or 0: 13, "object not in the layout"; 14, "object byte hidden".
unfoldable pub back_refusal : Home → List Component → ℕ
back_refusal (in_object o p) cs =
    let c = owner o cs in
    cond (elem same_object o (records_in cs)) (hidden_refusal c.begin c.end (file_byte_in c o p)) 13

-- The file byte of a home.
unfoldable pub byte_of : Home → List Component → ℕ
byte_of (in_object o p) cs = file_byte_in (owner o cs) o p

-- The file byte of a home, or a refusal number, of components that keep the rules.
unfoldable pub back_in : Home → List Component → Answer ℕ
back_in h cs = answer (back_refusal h cs) (byte_of h cs)

-- The same of any layout, 1 if it is not valid.
unfoldable pub back_of : Home → Layout → Answer ℕ
back_of h l = answer (checked l (back_refusal h (view l))) (byte_of h (view l))

-- What the answer of `back` says, case by case: `Ok` the file byte, `Err` the number of the refusal.
unfoldable pub back_says : Result ℕ Refusal → Answer ℕ
back_says (Ok b) = gives b
back_says (Err e) = refuses (number_of e)
