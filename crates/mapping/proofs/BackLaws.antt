-- The laws of the way back, and that lookup and the way back undo each other.
use Rattle.std.specs.Prelude.{ℕ, zero, suc, ◌^◌, ◌≤◌, ◌<◌, ◌≡◌, refl, List, [], ◌∷◌, Bool, true, ◌&&◌, ◌||◌, ltb, leb}
use Rattle.std.specs.Prelude.{length}
use Rattle.std.proofs.Common.{sym, ◌∙◌, arith}
use Rattle.std.proofs.Math.Path.{ap}
use Rattle.std.proofs.lemmas.Bool.{false≢true}
use Rattle.std.proofs.Math.Option.{Option, some}
use Rattle.std.proofs.Math.ListN.{get_or}
use borrow.Author.Tests.{ltb-true, lt-ltb}
use Rattle.lists.specs.Bools.{bool_cases, both_true, true_both}
use Rattle.lists.specs.Tests.{any_of, first_any, first_passes}
use Rattle.lists.specs.Counting.{elem, elem_append, elem_at, elem_true, count, count_append, count_once}
use Rattle.stripe.proofs.Laws as striping
use Rattle.stripe.specs.Stripe.{stripe_of, object_byte}
use Rattle.layout.specs.declared.Object.{Object}
use Rattle.layout.specs.declared.Component.{Component}
use Rattle.layout.specs.declared.Layout.{Layout}
use Rattle.layout.specs.Records.{no_object, no_component, records_of, records_in, view}
use Rattle.layout.specs.Distinct.{same_object}
use Rattle.layout.specs.Holder.{holds}
use Rattle.layout.specs.Facts.{IsInit, Keeps}
use Rattle.layout.specs.FactLaws.{same_object_lem, same_object_refl, valid_facts, kind_init}
use Rattle.layout.specs.ArrayLaws.{kind_at}
use Rattle.mapping.specs.Answers.{gives, refuses}
use Rattle.mapping.specs.AnswerLaws.{gives_or_refuses, answer_gives, checked_valid, checked_gives}
use Rattle.mapping.specs.Homes.{Home, in_object, object_for, home_in, init_at, home_of}
use Rattle.mapping.specs.HomeLaws.{home_position, home_at}
use Rattle.mapping.proofs.LookupLaws.{lookup_home}
use Rattle.mapping.specs.Lookup.{lookup_refusal, lookup_in, lookup_of}
use Rattle.mapping.specs.Back.{position_in, owner_of, owner, file_byte_in}
use Rattle.mapping.specs.Back.{hidden_refusal, back_refusal, byte_of, back_in, back_of}

-- The position of an object among object records is below their number exactly if one of them names it.
pub position_elem : (o : Object) (os : List Object) → elem same_object o os ≡ ltb (position_in o os) (length os)
position_elem o os = first_any (same_object o) os

-- The record at the position then names the object.
position_names : (o : Object) (os : List Object) → position_in o os < length os
    → get_or os (position_in o os) no_object ≡ o
position_names o os h =
    sym (same_object_lem o (get_or os (position_in o os) no_object) (first_passes (same_object o) os no_object h))

-- A component has an object record that names the object.
abbrev has : Object → Component → Bool
has o c = elem same_object o (records_of c)

-- An object record of the layout names an object exactly if one of some component does.
elem_records : (o : Object) (cs : List Component) → elem same_object o (records_in cs) ≡ any_of (has o) cs
elem_records o [] = refl
elem_records o (c ∷ cs) =
    elem_append same_object o (records_of c) (records_in cs) ∙ ap (λ (t : Bool). has o c || t) (elem_records o cs)

-- The position of an object's component is below the number of components exactly if an object record of the layout
-- names the object.
pub owner_elem : (o : Object) (cs : List Component) → elem same_object o (records_in cs)
    ≡ ltb (owner_of o cs) (length cs)
owner_elem o cs = elem_records o cs ∙ first_any (has o) cs

-- The component at the position then has an object record that names it.
pub owner_has : (o : Object) (cs : List Component) → owner_of o cs < length cs
    → elem same_object o (records_of (owner o cs)) ≡ true
owner_has o cs h = first_passes (has o) cs no_component h

-- If the object of the record at a place is there once, its position is that place.
position_at : (os : List Object) (i : ℕ) → i < length os → count same_object (get_or os i no_object) os ≤ 1
    → position_in (get_or os i no_object) os ≡ i
position_at os i h once =
    let o = get_or os i no_object in
    let j = position_in o os in
    let stands = elem_at same_object same_object_refl os i no_object h in
    let below = ltb-true j (length os) (sym (position_elem o os) ∙ stands) in
    sym (count_once same_object same_object_refl os i j no_object h below once (sym (position_names o os below)))

-- The object records of a component are among those of the layout.
records_counted : (o : Object) (cs : List Component) (i : ℕ) → i < length cs
    → count same_object o (records_of (get_or cs i no_component)) ≤ count same_object o (records_in cs)
records_counted o [] i h = absurd (omega arith)
records_counted o (c ∷ cs) zero h = omega (arith, count_append same_object o (records_of c) (records_in cs))
records_counted o (c ∷ cs) (suc i) h =
    omega (arith, count_append same_object o (records_of c) (records_in cs), records_counted o cs i (omega arith))

-- If the layout names an object once, the component with a record that names it is the object's component.
owner_at : (o : Object) (cs : List Component) → count same_object o (records_in cs) ≤ 1 → (i : ℕ) → i < length cs
    → elem same_object o (records_of (get_or cs i no_component)) ≡ true → owner_of o cs ≡ i
owner_at o [] once i h e = absurd (omega arith)
owner_at o (c ∷ cs) once zero h e = rw e
owner_at o (c ∷ cs) once (suc i) h e =
    let sum = count_append same_object o (records_of c) (records_in cs) in
    let there = elem_true same_object o (records_of (get_or cs i no_component)) e in
    let among = records_counted o cs i (omega arith) in
    bool_cases (elem same_object o (records_of c))
    (λ q. absurd (omega (arith, once, sum, there, among, elem_true same_object o (records_of c) q)))
    (λ q. rw q (ap suc (owner_at o cs (omega (arith, once, sum)) i (omega arith) e)))

-- A component with an object record is init.
pub elem_init : (o : Object) (c : Component) → elem same_object o (records_of c) ≡ true → c.init ≡ true
elem_init o c e = bool_cases c.init (λ i. i) (λ i. absurd (false≢true (rw i at e)))

-- One init component, its extent not looked at.
module _ (c : Component) (k : IsInit c) where
  -- The stripe of a byte has an object record.
  pub stripe_stands : (b : ℕ) → stripe_of c.stripe_size c.stripe_count b < length (records_of c)
  stripe_stands b =
      let stripes : 0 < c.stripe_count = omega (arith, k.striped.some) in
      omega (arith, k.records, striping.stripe_below c.stripe_size c.stripe_count b stripes)

  -- So the object of its home is among the component's records.
  object_stands : (b : ℕ) → elem same_object (object_for c b) (records_of c) ≡ true
  object_stands b =
      let i = stripe_of c.stripe_size c.stripe_count b in
      elem_at same_object same_object_refl (records_of c) i no_object (stripe_stands b)

  -- Back from the home of a byte is that byte, if its object is among the component's records once.
  back_in_lem : (b : ℕ) → count same_object (object_for c b) (records_of c) ≤ 1
      → file_byte_in c (object_for c b) (object_byte c.stripe_size c.stripe_count b) ≡ b
  unfolding file_byte_in
  back_in_lem b once =
      rw (position_at (records_of c) (stripe_of c.stripe_size c.stripe_count b) (stripe_stands b) once)
      (striping.back_of_home c.stripe_size c.stripe_count b k.striped.size.nonzero)

  -- The home of the byte that is found back from a home is that home.
  home_back : (o : Object) (p : ℕ) → position_in o (records_of c) < length (records_of c)
      → home_in c (file_byte_in c o p) ≡ in_object o p
  unfolding home_in file_byte_in
  home_back o p h =
      let below : position_in o (records_of c) < c.stripe_count = omega (arith, h, k.records) in
      let r = striping.home_of_back c.stripe_size c.stripe_count (position_in o (records_of c)) p k.striped.size.nonzero
      below in
      rw (r.0, r.1, position_names o (records_of c) h)

-- A file byte that is not hidden lies in the extent.
not_hidden_refusal : (begin end b : ℕ) → hidden_refusal begin end b ≡ 0 → (leb begin b && ltb b end) ≡ true
unfolding hidden_refusal
not_hidden_refusal begin end b e =
    let within = leb begin b && ltb b end in
    bool_cases (within && ltb b (2 ^ 64)) (λ q. (both_true within (ltb b (2 ^ 64)) q).0)
    (λ q. absurd (omega (arith, rw q at e)))

-- If the way back is not refused, the object is in the layout, and the file byte in the object's component.
not_refused : (o : Object) (p : ℕ) (cs : List Component) → back_refusal (in_object o p) cs ≡ 0
    → (owner_of o cs < length cs) × (holds (owner o cs) (file_byte_in (owner o cs) o p) ≡ true)
unfolding back_refusal
not_refused o p cs e =
    let c = owner o cs in
    bool_cases (elem same_object o (records_in cs))
    (λ q. (
      ltb-true (owner_of o cs) (length cs) (sym (owner_elem o cs) ∙ q),
      not_hidden_refusal c.begin c.end (file_byte_in c o p) (rw q at e),
    ))
    (λ q. absurd (omega (arith, rw q at e)))

-- The components keep the rules.
module _ {more : Bool} {cs : List Component} (k : Keeps more cs) where
  -- Back from the home by an init component that holds the byte: the file byte is that byte, and below 2^64 it is not
  -- refused.
  back_at : (b i : ℕ) → i < length cs → init_at b (get_or cs i no_component) ≡ true
      → (byte_of (home_in (get_or cs i no_component) b) cs ≡ b)
      × (b < 2 ^ 64 → back_refusal (home_in (get_or cs i no_component) b) cs ≡ 0)
  unfolding home_in byte_of back_refusal hidden_refusal
  back_at b i h e =
      let c = get_or cs i no_component in
      let o = object_for c b in
      let t = both_true c.init (holds c b) e in
      let f = kind_init (kind_at cs k.fields no_component i h) t.0 in
      let own = owner_at o cs (k.objects o) i h (object_stands c f b) in
      let has = owner_elem o cs ∙ lt-ltb (owner_of o cs) (length cs) (omega (arith, own, h)) in
      let back = back_in_lem c f b (omega (arith, k.objects o, records_counted o cs i h)) in
      (rw (own, back), λ l. rw (has, own, back, t.1, lt-ltb b (2 ^ 64) l))

  -- The file byte of the home of a byte is that byte.
  pub byte_of_home : (b : ℕ) (h : Home) → home_of b cs ≡ some h → byte_of h cs ≡ b
  byte_of_home b h e =
      let r = home_position b cs h e in
      rw (← r.read_as) (back_at b r.position r.below r.init_at_lem).0

  -- Two bytes with equal homes are equal.
  pub home_once : (b b' : ℕ) (h : Home) → home_of b cs ≡ some h → home_of b' cs ≡ some h → b ≡ b'
  home_once b b' h e e' = sym (byte_of_home b h e) ∙ byte_of_home b' h e'

  -- Back from the home of a byte below 2^64 is that byte.
  pub back_of_home : (b : ℕ) (h : Home) → b < 2 ^ 64 → home_of b cs ≡ some h → back_in h cs ≡ gives b
  unfolding back_in
  back_of_home b h l e =
      let r = home_position b cs h e in
      let accepted : back_refusal h cs ≡ 0 = rw (← r.read_as) ((back_at b r.position r.below r.init_at_lem).1 l) in
      rw (accepted, byte_of_home b h e)

  -- If the way back is refused, no byte below 2^64 has the home.
  pub no_byte : (h : Home) (n : ℕ) → back_in h cs ≡ refuses n → (b : ℕ) → b < 2 ^ 64 → home_of b cs ≡ some h → ⊥
  no_byte h n r b l e = gives_or_refuses b n (sym (back_of_home b h l e) ∙ r)

  -- The way back from a home gives a byte that has it.
  pub home_of_back : (h : Home) (b : ℕ) → back_in h cs ≡ gives b → home_of b cs ≡ some h
  unfolding back_in byte_of
  home_of_back (in_object o p) b e =
      let a = answer_gives (back_refusal (in_object o p) cs) (byte_of (in_object o p) cs) b e in
      let byte : file_byte_in (owner o cs) o p ≡ b = a.1 in
      let f = not_refused o p cs a.0 in
      let c = owner o cs in
      let os = records_of c in
      let has = owner_has o cs f.0 in
      let stands = ltb-true (position_in o os) (length os) (sym (position_elem o os) ∙ has) in
      let init = elem_init o c has in
      let home = home_back c (kind_init (kind_at cs k.fields no_component (owner_of o cs) f.0) init) o p stands in
      let here = home_at k (file_byte_in c o p) (owner_of o cs) f.0 (true_both init f.1) in
      rw (← byte) (here ∙ ap {B = Option Home} some home)

-- Back from what a lookup gives is the byte that was looked up.
pub looked_up_back : (l : Layout) (b : ℕ) (h : Home) → b < 2 ^ 64 → lookup_of b l ≡ gives (some h)
    → back_of h l ≡ gives b
unfolding lookup_of lookup_in back_of back_in
looked_up_back l b h s e =
    let g = checked_gives l (lookup_refusal b (view l)) (home_of b (view l)) (some h) e in
    let k = (valid_facts l g.0).keeps in
    checked_valid l (back_refusal h (view l)) (byte_of h (view l)) g.0
    ∙ back_of_home k b h s ((lookup_home k b h).0 g.1)

-- Lookup of what the way back gives is the home that was asked for.
pub back_looked_up : (l : Layout) (h : Home) (b : ℕ) → back_of h l ≡ gives b → lookup_of b l ≡ gives (some h)
unfolding lookup_of lookup_in back_of back_in
back_looked_up l h b e =
    let g = checked_gives l (back_refusal h (view l)) (byte_of h (view l)) b e in
    let k = (valid_facts l g.0).keeps in
    checked_valid l (lookup_refusal b (view l)) (home_of b (view l)) g.0
    ∙ (lookup_home k b h).1 (home_of_back k h b g.1)
