-- The home of a file byte. What is in quotes is document 01's.
use Rattle.std.specs.Prelude.{ℕ, List, [], ◌∷◌, Bool, true, false, cond, ◌&&◌, get_or}
use Rattle.std.proofs.Math.Option.{Option, none, some}
use Rattle.lists.specs.Tests.{any_of}
use Rattle.stripe.specs.Stripe.{stripe_of, object_byte}
use Rattle.layout.specs.declared.Object.{Object}
use Rattle.layout.specs.declared.Component.{Component}
use Rattle.layout.specs.Records.{no_object, records_of}
use Rattle.layout.specs.Holder.{holds}

-- Where a file byte is in the store: an object, which is a target and a number, and a byte of it; "two homes are
-- equal if target, number and byte are".
pub data Home : Type 0 where
  in_object : Object → ℕ → Home

-- The object record of the stripe that byte b goes to by a component.
abbrev pub object_for : Component → ℕ → Object
object_for c b = get_or (records_of c) (stripe_of c.stripe_size c.stripe_count b) no_object

-- The home of byte b by a component: "The home is the target and number of that stripe's object record and that byte."
-- Stripe and byte are counted from the file's start, "as if the whole file had them": the extent is not looked at.
unfoldable pub home_in : Component → ℕ → Home
home_in c b = in_object (object_for c b) (object_byte c.stripe_size c.stripe_count b)

-- Byte b lies in the component, and that is init.
abbrev pub init_at : ℕ → Component → Bool
init_at b c = c.init && holds c b

-- Byte b "lies in an init component".
abbrev pub in_init : ℕ → List Component → Bool
in_init b cs = any_of (init_at b) cs

-- What an init component that holds byte b says of it by some reading; none if no init component holds it.
abbrev pub reading_of : {A : Type 0} → (Component → ℕ → A) → ℕ → List Component → Option A
reading_of read b [] = none
reading_of read b (c ∷ cs) = cond (init_at b c) (some (read c b)) (reading_of read b cs)

-- The home of file byte b, or none: "A byte has a home exactly when it lies in an init component".
unfoldable pub home_of : ℕ → List Component → Option Home
home_of b cs = reading_of home_in b cs

-- Does a reading give something?
abbrev pub is_given : {A : Type 0} → Option A → Bool
is_given none = false
is_given (some a) = true

-- Does byte b have a home?
unfoldable pub has_home : ℕ → List Component → Bool
has_home b cs = is_given (home_of b cs)
