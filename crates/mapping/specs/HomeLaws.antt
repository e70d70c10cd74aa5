-- The laws of homes and of lookup. What is in quotes is document 01's.
use Rattle.std.specs.Prelude.{ℕ, suc, ◌≤◌, ◌<◌, ◌≡◌, refl, List, [], ◌∷◌, Bool, false, ◌&&◌, ltb, leb}
use Rattle.std.proofs.Common.{sym, ◌∙◌, arith}
use Rattle.std.proofs.Math.Path.{ap}
use Rattle.std.proofs.Math.Bool.{true, not}
use Rattle.std.proofs.lemmas.Bool.{false≢true}
use Rattle.std.proofs.Math.Option.{Option, none, some, none-ne-some, some-injective}
use Rattle.std.proofs.Math.ListN.{length, get_or}
use borrow.Author.Tests.{ltb-true, ltb-false, lt-ltb, le-ltb, le-leb, lt-leb}
use Rattle.lists.specs.Bools.{bool_cases, both_true, true_both, same_test}
use Rattle.lists.specs.Tests.{any_of, any_at, any_place}
use Rattle.layout.specs.declared.Component.{Component}
use Rattle.layout.specs.Records.{no_component}
use Rattle.layout.specs.Holder.{holds, holder_of, last_end}
use Rattle.layout.specs.Facts.{Keeps}
use Rattle.layout.specs.HolderLaws.{holder_holds, covers_holder, covers_last, at_most_one}
use Rattle.mapping.specs.Answers.{gives, refuses}
use Rattle.mapping.specs.Homes.{Home, home_in, init_at, in_init, reading_of, home_of, is_given, has_home}
use Rattle.mapping.specs.Lookup.{not_init_at, lookup_refusal, lookup_in}

-- An init component of the list holds byte b, and by a reading it says `a` of it.
pub record ReadAt {A : Type 0} (read : Component → ℕ → A) (b : ℕ) (cs : List Component) (a : A) : Type 0 where
  pub position : ℕ
  pub below : position < length cs
  pub init_at_lem : init_at b (get_or cs position no_component) ≡ true
  pub read_as : read (get_or cs position no_component) b ≡ a

module _ {A : Type 0} (read : Component → ℕ → A) (b : ℕ) where
  -- A reading gives something of a byte exactly if the byte lies in an init component.
  pub has_reading : (cs : List Component) → is_given (reading_of read b cs) ≡ in_init b cs
  has_reading [] = refl
  has_reading (c ∷ cs) = bool_cases (init_at b c) (λ e. rw e) (λ e. rw e (has_reading cs))

  -- What a reading gives is said by an init component that holds the byte.
  pub reading_position : (cs : List Component) (a : A) → reading_of read b cs ≡ some a → ReadAt read b cs a
  reading_position [] a e = absurd (none-ne-some a e)
  reading_position (c ∷ cs) a e =
      bool_cases (init_at b c)
      (λ q. let s = some-injective (read c b) a (rw q at e) in
      record { position = 0; below = omega arith; init_at_lem = q; read_as = s })
      (λ q. let r = reading_position cs a (rw q at e) in
      record {
        position = suc r.position;
        below = omega (arith, r.below);
        init_at_lem = r.init_at_lem;
        read_as = r.read_as;
      })

-- "A byte has a home exactly when it lies in an init component".
pub has_home_lem : (b : ℕ) (cs : List Component) → has_home b cs ≡ in_init b cs
unfolding has_home home_of
has_home_lem b cs = has_reading home_in b cs

-- The home of a byte is the one by an init component that holds it.
pub home_position : (b : ℕ) (cs : List Component) (h : Home) → home_of b cs ≡ some h → ReadAt home_in b cs h
unfolding home_of
home_position b cs h e = reading_position home_in b cs h e

-- What is given, if something is.
pub given : {A : Type 0} (o : Option A) → is_given o ≡ true → (a : A) × (o ≡ some a)
given none e = absurd (false≢true e)
given (some a) e = (a, refl)

-- The component that holds byte b, if there is one.
abbrev pub holder : ℕ → List Component → Component
holder b cs = get_or cs (holder_of b cs) no_component

-- The components keep the rules.
module _ {more : Bool} {cs : List Component} (k : Keeps more cs) (b : ℕ) where
  -- A component that passes a test and holds the byte is at the position of the byte's component.
  held_once : (i : ℕ) → i < length cs → (t : Bool) → (t && holds (get_or cs i no_component) b) ≡ true → i ≡ holder_of b cs
  held_once i h t e =
      at_most_one more 0 false cs k.linked k.fields b i h (both_true t (holds (get_or cs i no_component) b) e).1

  -- Some component passes a test and holds the byte exactly if the byte's component passes it.
  any_held : (ok : Component → Bool) → holder_of b cs < length cs
      → any_of (λ (c : Component). ok c && holds c b) cs ≡ ok (holder b cs)
  any_held ok h =
      let test : Component → Bool = λ c. ok c && holds c b in
      same_test (any_of test cs) (ok (holder b cs))
      (λ e. let p = any_place test no_component cs e in
      let c = get_or cs p.0 no_component in
      rw (← held_once p.0 p.1 (ok c) p.2) (both_true (ok c) (holds c b) p.2).0)
      (λ e. any_at test no_component cs (holder_of b cs) h (true_both e (holder_holds b cs h)))

  -- Of a byte that lies in an init component, a reading gives what that component says.
  pub reading_at : {A : Type 0} (read : Component → ℕ → A) (i : ℕ) → i < length cs
      → init_at b (get_or cs i no_component) ≡ true → reading_of read b cs ≡ some (read (get_or cs i no_component) b)
  reading_at {A} read i h e =
      let g = given (reading_of read b cs) (has_reading read b cs ∙ any_at (init_at b) no_component cs i h e) in
      let r = reading_position read b cs g.0 g.1 in
      let there = held_once r.position r.below (get_or cs r.position no_component).init r.init_at_lem in
      let here = held_once i h (get_or cs i no_component).init e in
      let said = ap (λ (j : ℕ). read (get_or cs j no_component) b) (there ∙ sym here) in
      g.1 ∙ ap {B = Option A} some (sym r.read_as ∙ said)

  -- The home of a byte that lies in an init component is the one by that component.
  pub home_at : (i : ℕ) → i < length cs → init_at b (get_or cs i no_component) ≡ true
      → home_of b cs ≡ some (home_in (get_or cs i no_component) b)
  unfolding home_of
  home_at i h e = reading_at home_in i h e

  -- A component holds the byte exactly if the byte lies below the last end.
  held_below : ltb (holder_of b cs) (length cs) ≡ ltb b (last_end cs)
  held_below = sym (covers_holder b cs) ∙ covers_last more cs k.linked k.fields b

  -- A byte below the last end lies in a component that is not init exactly if it does not lie in one that is.
  pub not_init_or_init : b < last_end cs → any_of (not_init_at b) cs ≡ not (in_init b cs)
  not_init_or_init h =
      let held = ltb-true (holder_of b cs) (length cs) (held_below ∙ lt-ltb b (last_end cs) h) in
      any_held (λ (c : Component). not c.init) held ∙ ap not (sym (any_held (λ (c : Component). c.init) held))

  -- If no component holds the byte, lookup refuses by 10.
  pub lookup_none : length cs ≤ holder_of b cs → lookup_in b cs ≡ refuses 10
  unfolding lookup_in lookup_refusal
  lookup_none h =
      let past = ltb-false b (last_end cs) (sym held_below ∙ le-ltb (holder_of b cs) (length cs) h) in
      rw (le-leb (last_end cs) b past)

  -- If a component holds the byte, it does not lie at or past the last end.
  not_past : holder_of b cs < length cs → leb (last_end cs) b ≡ false
  not_past h =
      lt-leb (last_end cs) b (ltb-true b (last_end cs) (sym held_below ∙ lt-ltb (holder_of b cs) (length cs) h))

  -- If the byte's component is not init, lookup refuses by 11.
  pub lookup_not_init : holder_of b cs < length cs → (holder b cs).init ≡ false → lookup_in b cs ≡ refuses 11
  unfolding lookup_in lookup_refusal
  lookup_not_init h e = rw (not_past h, any_held (λ (c : Component). not c.init) h, e)

  -- If a component that holds the byte is init, lookup gives the home by it.
  pub lookup_at : (i : ℕ) → i < length cs → init_at b (get_or cs i no_component) ≡ true
      → lookup_in b cs ≡ gives (some (home_in (get_or cs i no_component) b))
  unfolding lookup_in lookup_refusal
  lookup_at i h e =
      let c = get_or cs i no_component in
      let same : i ≡ holder_of b cs = held_once i h c.init e in
      let held : holder_of b cs < length cs = rw (← same) h in
      let init : (holder b cs).init ≡ true = rw (← same) (both_true c.init (holds c b) e).0 in
      rw (not_past held, any_held (λ (c : Component). not c.init) held, init, home_at i h e)
