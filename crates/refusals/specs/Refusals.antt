-- The numbers of the refusals. What is in quotes is document 01's.
use Rattle.std.specs.Prelude.{ℕ, ◌<◌, ◌≡◌, refl, Result, Ok, Err, is_ok, eqb}
use Rattle.std.proofs.Common.{sym, arith, ne_eqb}
use Rattle.refusals.specs.declared.Refusal.{Refusal}
use Rattle.refusals.specs.declared.Refusal.TheVariants.{NotValid, AfterLastPage, Form, PageNumber, Over16, Fields, Neighbours, Distinctness, RequestEnd, PastEnd, NotInit, Pieces, NoObject, Hidden, Table, TooFewTargets, GrownOver16, ObjectInLayout, Generation, Buffer}

-- The number of each refusal.
abbrev pub number_of : Refusal → ℕ
number_of NotValid = 1
number_of AfterLastPage = 2
number_of Form = 3
number_of PageNumber = 4
number_of Over16 = 5
number_of Fields = 6
number_of Neighbours = 7
number_of Distinctness = 8
number_of RequestEnd = 9
number_of PastEnd = 10
number_of NotInit = 11
number_of Pieces = 12
number_of NoObject = 13
number_of Hidden = 14
number_of Table = 15
number_of TooFewTargets = 16
number_of GrownOver16 = 17
number_of ObjectInLayout = 18
number_of Generation = 19
number_of Buffer = 20

-- The number of an answer: 0 if it is what was asked for, else that of the refusal.
abbrev pub number_in : {A : Type 0} → Result A Refusal → ℕ
number_in (Ok a) = 0
number_in (Err e) = number_of e

-- No refusal has the number 0,
pub number_pos : (e : Refusal) → 0 < number_of e
number_pos NotValid = omega arith
number_pos AfterLastPage = omega arith
number_pos Form = omega arith
number_pos PageNumber = omega arith
number_pos Over16 = omega arith
number_pos Fields = omega arith
number_pos Neighbours = omega arith
number_pos Distinctness = omega arith
number_pos RequestEnd = omega arith
number_pos PastEnd = omega arith
number_pos NotInit = omega arith
number_pos Pieces = omega arith
number_pos NoObject = omega arith
number_pos Hidden = omega arith
number_pos Table = omega arith
number_pos TooFewTargets = omega arith
number_pos GrownOver16 = omega arith
number_pos ObjectInLayout = omega arith
number_pos Generation = omega arith
number_pos Buffer = omega arith

-- so the number of an answer is 0 exactly if the answer is what was asked for.
pub ok_number : {A : Type 0} (r : Result A Refusal) → is_ok r ≡ eqb (number_in r) 0
ok_number (Ok a) = refl
ok_number (Err e) = sym (ne_eqb (number_of e) 0 (λ h. omega (arith, number_pos e)))
