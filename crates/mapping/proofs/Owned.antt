-- The way back: what the first component that has an object says of a byte of it.
use Rattle.std.specs.Prelude.{ℕ, ◌+◌, ◌^◌, ◌≤◌, ◌<◌, ◌≡◌, refl, false, ◌&&◌, ltb, leb}
use Rattle.std.specs.Prelude.{List, [], ◌∷◌, length, get_or, drop, Option, None, Some}
use Rattle.std.proofs.Common.{◌∙◌, arith}
use borrow.Author.Tests.{ltb-true, ltb-false, lt-ltb, le-ltb, leb-true, le-leb}
use Rattle.lists.specs.Bools.{cond_elim}
use Rattle.lists.specs.Tests.{conjunction_at, found}
use Rattle.lists.specs.Counting.{elem}
use Rattle.stripe.specs.Stripe.{file_byte, file_byte_below}
use Rattle.layout.specs.declared.Object.{Object}
use Rattle.layout.specs.declared.Component.{Component}
use Rattle.layout.specs.Records.{no_component, records_of}
use Rattle.layout.specs.Distinct.{same_object}
use Rattle.layout.specs.Facts.{IsInit}
use Rattle.layout.specs.FactLaws.{keeps_facts, kind_init}
use Rattle.layout.specs.ArrayLaws.{kind_at}
use Rattle.mapping.specs.Answers.{gives, refuses, answer}
use Rattle.mapping.specs.Homes.{in_object}
use Rattle.mapping.specs.Back.{position_in, owner_of, owner, file_byte_in}
use Rattle.mapping.specs.Back.{hidden_refusal, back_refusal, byte_of, back_in}
use Rattle.mapping.specs.Components.{AreValid}
use Rattle.mapping.proofs.BackLaws.{position_elem, owner_elem, owner_has, elem_init}
use Rattle.mapping.proofs.Firsts.{found_some, found_none, first_here, first_later}

module _ (z s i p : ℕ) where
  -- A number that is given for the file byte is the file byte, and below 2^64.
  pub below_some : (b : ℕ) → file_byte_below z s i p ≡ Some b → (b ≡ file_byte z s i p) × (b < 2 ^ 64)
  unfolding file_byte_below
  below_some b =
      cond_elim (λ (o : Option ℕ). o ≡ Some b → (b ≡ file_byte z s i p) × (b < 2 ^ 64))
      (ltb (file_byte z s i p) (2 ^ 64))
      (λ t e. let same : b ≡ file_byte z s i p = cc in (same, omega (arith, ltb-true (file_byte z s i p) (2 ^ 64) t)))
      (λ t e. cc)

  -- If none is given, the file byte is not below 2^64.
  pub below_none : file_byte_below z s i p ≡ None → 2 ^ 64 ≤ file_byte z s i p
  unfolding file_byte_below
  below_none =
      cond_elim (λ (o : Option ℕ). o ≡ None → 2 ^ 64 ≤ file_byte z s i p) (ltb (file_byte z s i p) (2 ^ 64))
      (λ t e. cc)
      (λ t e. ltb-false (file_byte z s i p) (2 ^ 64) t)

-- A file byte outside the extent or not below 2^64 is refused by 14.
pub outside_refused : (begin end b : ℕ) → (begin ≤ b → b < end → b < 2 ^ 64 → ⊥)
    → answer (hidden_refusal begin end b) b ≡ refuses 14
unfolding hidden_refusal
outside_refused begin end b h =
    cond_elim (λ (n : ℕ). answer n b ≡ refuses 14) (leb begin b && ltb b end && ltb b (2 ^ 64))
    (λ e. let p = conjunction_at (leb begin b) (ltb b end ∷ ltb b (2 ^ 64) ∷ []) e in
    absurd (h (leb-true begin b (p 0)) (ltb-true b end (p 1)) (ltb-true b (2 ^ 64) (p 2))))
    (λ e. refl)

-- Any other is given.
pub inside_given : (begin end b : ℕ) → begin ≤ b → b < end → b < 2 ^ 64
    → answer (hidden_refusal begin end b) b ≡ gives b
unfolding hidden_refusal
inside_given begin end b h k w = rw (le-leb begin b h, lt-ltb b end k, lt-ltb b (2 ^ 64) w)

module _ (cs : List Component) (v : AreValid cs) (o : Object) (p : ℕ) where
  -- No component has the object.
  pub not_owned : length cs ≤ owner_of o cs → back_in (in_object o p) cs ≡ refuses 13
  unfolding back_in back_refusal
  not_owned h = rw (owner_elem o cs, le-ltb (owner_of o cs) (length cs) h)

  -- None before component i has it, which has it as its stripe j.
  module _ (i : ℕ) (h : i < length cs) (far : owner_of o cs ≡ i + owner_of o (drop i cs)) where
    abbrev os : List Object
    os = records_of (get_or cs i no_component)

    -- Nor has component i.
    pub later : found (position_in o os) (length os) ≡ None → owner_of o cs ≡ i + 1 + owner_of o (drop (i + 1) cs)
    later e =
        let none = le-ltb _ _ (found_none (position_in o os) (length os) e) in
        first_later (λ (c : Component). elem same_object o (records_of c)) cs i no_component h far
        (position_elem o os ∙ none)

    module _ (j : ℕ) (e : found (position_in o os) (length os) ≡ Some j) where
      stripe : (j ≡ position_in o os) × (position_in o os < length os)
      stripe = found_some (position_in o os) (length os) j e

      at : owner_of o cs ≡ i
      at =
          first_here (λ (c : Component). elem same_object o (records_of c)) cs i no_component h far
          (position_elem o os ∙ lt-ltb _ _ stripe.1)

      owner_read : owner o cs ≡ get_or cs i no_component
      owner_read = rw at

      -- It is init.
      pub owner_init : IsInit (get_or cs i no_component)
      owner_init =
          kind_init (kind_at cs (keeps_facts false cs v.2).fields no_component i h)
          (elem_init o (get_or cs i no_component) (rw owner_read at (owner_has o cs (omega (arith, at)))))

      -- By its extent the file byte of byte p is given or refused.
      pub owned : let c = get_or cs i no_component in
          let b = file_byte c.stripe_size c.stripe_count j p in
          answer (hidden_refusal c.begin c.end b) b ≡ back_in (in_object o p) cs
      unfolding back_in back_refusal byte_of file_byte_in
      owned =
          rw (owner_elem o cs, lt-ltb (owner_of o cs) (length cs) (omega (arith, at)), owner_read, ← stripe.0)
