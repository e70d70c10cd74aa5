-- What the component rules say, as facts to reason with. `FactLaws` has the laws that the tests give these facts and that the
-- facts give the tests back.
use Rattle.std.specs.Prelude.{ℕ, ◌≤◌, ◌<◌, ◌%◌, ◌≡◌, List, [], ◌∷◌, Bool, true, false, not, eqb, pos, negsuc, length, get_or}
use Rattle.lists.specs.Counting.{count}
use Rattle.layout.specs.declared.Object.{Object}
use Rattle.layout.specs.declared.Component.{Component}
use Rattle.layout.specs.declared.Layout.{Layout}
use Rattle.layout.specs.Records.{no_object, ids_of, records_of, records_in, view}
use Rattle.layout.specs.Neighbours.{is_empty}
use Rattle.layout.specs.Distinct.{same_object}

-- A nonzero multiple of 65,536.
pub record NonzeroMultiple (n : ℕ) : Type 0 where
  pub nonzero : 0 < n
  pub multiple : n % 65536 ≡ 0

-- The stripe fields of a component that is not an extension.
pub record Striped (c : Component) : Type 0 where
  pub some : 1 ≤ c.stripe_count
  pub few : c.stripe_count ≤ 16
  pub size : NonzeroMultiple c.stripe_size
  pub no_extension : c.extension_size ≡ 0

-- An init component.
pub record IsInit (c : Component) : Type 0 where
  pub init : c.init ≡ true
  pub extension : c.extension ≡ false
  pub striped : Striped c
  pub extent : c.begin < c.end
  pub records : length (records_of c) ≡ c.stripe_count
  pub first : c.first_target ≡ pos (get_or (records_of c) 0 no_object).target
  pub targets : (i : ℕ) → i < length (records_of c) → (get_or (records_of c) i no_object).target ≤ 65534

-- An extension.
pub record IsExtension (c : Component) : Type 0 where
  pub init : c.init ≡ false
  pub extension : c.extension ≡ true
  pub extent : c.begin < c.end
  pub no_stripes : c.stripe_count ≡ 0
  pub no_size : c.stripe_size ≡ 0
  pub size : NonzeroMultiple c.extension_size
  pub first : c.first_target ≡ negsuc 0

-- A component that is neither: bare.
pub record IsBare (c : Component) : Type 0 where
  pub init : c.init ≡ false
  pub extension : c.extension ≡ false
  pub striped : Striped c
  pub extent : c.begin ≤ c.end
  pub first : c.first_target ≡ negsuc 0

-- The three kinds of component.
pub data Kind (c : Component) : Type 0 where
  is_init : IsInit c → Kind c
  is_extension : IsExtension c → Kind c
  is_bare : IsBare c → Kind c

-- Refusal 6 does not apply to the list.
abbrev pub Fields : List Component → Type 0
Fields [] = Unit {0}
Fields (c ∷ cs) = (1 ≤ c.id) × Kind c × Fields cs

-- The third and the fourth part of the neighbour rule, of a component and those that follow it. With a follower: if it is not
-- init, it is empty exactly if the follower is an extension. With none: if no pages are outstanding, it is not empty.
abbrev pub Follower : Bool → Component → List Component → Type 0
Follower more c [] = more ≡ false → is_empty c.begin c.end ≡ false
Follower more c (d ∷ cs) = c.init ≡ false → is_empty c.begin c.end ≡ d.extension

-- Refusal 7 does not apply to the list, where the component before it ends at `at`, and `may` says that an extension may be
-- first.
abbrev pub Linked : Bool → ℕ → Bool → List Component → Type 0
Linked more at may [] = Unit {0}
Linked more at may (c ∷ cs) =
    (c.begin ≡ at) × (c.extension ≡ true → may ≡ true) × Follower more c cs × Linked more c.end (not c.extension) cs

-- The component rules hold of the list, with pages outstanding or not: no id and no object is there twice.
pub record Keeps (more : Bool) (cs : List Component) : Type 0 where
  pub fields : Fields cs
  pub linked : Linked more 0 false cs
  pub ids : (i : ℕ) → count eqb i (ids_of cs) ≤ 1
  pub objects : (o : Object) → count same_object o (records_in cs) ≤ 1

-- The layout is valid.
pub record Valid (l : Layout) : Type 0 where
  pub complete : l.complete ≡ true
  pub some : 1 ≤ l.count
  pub few : l.count ≤ 16
  pub whole : length (view l) ≡ l.count
  pub keeps : Keeps false (view l)
