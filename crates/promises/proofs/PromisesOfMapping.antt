-- The promises on homes and the way back, beside `lookup` and `back` of `Promises`, which says how to read this. The
-- contract of `moorsickle::lookup` is `lookup_says r ≡ lookup_of b l`, that of `back` `back_says r ≡ back_of h l`. What
-- is in quotes is document 01's.
use Rattle.std.specs.Prelude.{ℕ, ◌^◌, ◌<◌, ◌≡◌, List, ◌↔◌, true}
use Rattle.std.proofs.Math.Option.{Option, some}
use Rattle.layout.specs.declared.Object.{Object}
use Rattle.layout.specs.declared.Component.{Component}
use Rattle.layout.specs.declared.Layout.{Layout}
use Rattle.layout.specs.Records.{view}
use Rattle.layout.specs.Rules.{valid}
use Rattle.mapping.specs.Answers.{gives, answer_number}
use Rattle.mapping.specs.Homes.{Home, in_object, in_init, home_of, has_home}
use Rattle.mapping.specs.Lookup.{lookup_of}
use Rattle.mapping.specs.Back.{back_of}
use Rattle.mapping.specs.HomeLaws as homes
use Rattle.mapping.proofs.BackLaws.{looked_up_back, back_looked_up}
use Rattle.promises.specs.Numbers.{IsFirst}
use Rattle.promises.specs.Calls.{lookup_numbers, back_numbers}
use Rattle.promises.proofs.CallLaws as calls
use Rattle.promises.specs.LookupLaws as looking

-- "Lookup: 1, 10, 11."
pub lookup_number_lem : (l : Layout) (b : ℕ) → IsFirst (answer_number (lookup_of b l)) (lookup_numbers l b)
lookup_number_lem = calls.lookup_number_lem

-- "Back: 1, 13, 14."
pub back_number_lem : (l : Layout) (o : Object) (p : ℕ)
    → IsFirst (answer_number (back_of (in_object o p) l)) (back_numbers l o p)
back_number_lem = calls.back_number_lem

-- "A byte has a home exactly when it lies in an init component";
pub has_home_lem : (b : ℕ) (cs : List Component) → has_home b cs ≡ in_init b cs
has_home_lem = homes.has_home_lem

-- lookup in a valid layout gives a home exactly if it is the byte's,
pub lookup_gives : (l : Layout) → valid l ≡ true → (b : ℕ) (h : Home)
    → (lookup_of b l ≡ gives (some h)) ↔ (home_of b (view l) ≡ some h)
lookup_gives = looking.lookup_gives

-- and if it is not refused it gives one;
pub lookup_some : (l : Layout) (b : ℕ) (o : Option Home) → lookup_of b l ≡ gives o → (h : Home) × (o ≡ some h)
lookup_some = looking.lookup_some

-- back from what a lookup gives is the byte;
pub back_of_lookup : (l : Layout) (b : ℕ) (h : Home) → b < 2 ^ 64 → lookup_of b l ≡ gives (some h)
    → back_of h l ≡ gives b
back_of_lookup = looked_up_back

-- and lookup of what back gives is the home.
pub lookup_of_back : (l : Layout) (h : Home) (b : ℕ) → back_of h l ≡ gives b → lookup_of b l ≡ gives (some h)
lookup_of_back = back_looked_up
