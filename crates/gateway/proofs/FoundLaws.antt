-- What a call may rely on that reads the host's pages in place. Each entry point starts with this reading; `Finds` is
-- what it ensures. If it refuses, `refused_by` is all that is left to say of the call. If it does not, the call goes on
-- with the components at the places found, or with the layout that is made of them.
use Rattle.std.specs.Prelude.{ℕ, ◌≡◌, refl, Ok, Err, List, true, length, take}
use Rattle.std.proofs.Common.{sym, ap, ◌∙◌, arith, length-take-le, take_all, get_or-take}
use Rattle.std.proofs.lemmas.List.{length-map}
use Rattle.refusals.specs.declared.Refusal.{Refusal}
use Rattle.refusals.specs.Refusals.{number_of, number_pos}
use Rattle.layout.specs.declared.Component.{Component}
use Rattle.layout.specs.declared.Layout.{Layout}
use Rattle.layout.specs.Records.{view, packed}
use Rattle.layout.specs.RecordLaws.{view_pack}
use Rattle.layout.specs.Rules.{valid}
use Rattle.page.specs.Content.{component_at}
use Rattle.in_place.specs.Places.{components_at, ValidAt}
use Rattle.placed_run.specs.declared.Found.{Found}
use Rattle.placed_run.specs.Found.{Finds, finds_number}
use Rattle.mapping.specs.Answers.{Answer, answer}
use Rattle.gateway.specs.Host.{host_reading, host_layout, host_components, reading_first, lent_after}
use Rattle.gateway.proofs.HostLaws.{host_valid, reading_number, own_number, lent_stays}

-- A call whose reading is refused by n, whatever the call's own number is: it returns n, and all lent memory stays.
pub record Refused (pages : List ℕ) (n : ℕ) : Type 1 where
  pub number : (own : ℕ) → n ≡ reading_first pages own
  pub lent : {A : Type 0} (own : ℕ) (new lent : A) → lent ≡ lent_after (reading_first pages own) new lent

pub refused_by : {pages : List ℕ} (e : Refusal) → number_of e ≡ (host_reading pages).refusal
    → Refused pages (number_of e)
refused_by {pages} e f =
    let number : (own : ℕ) → number_of e ≡ reading_first pages own =
    λ own. f ∙ reading_number pages own (λ z. omega (arith, number_pos e, f, z)) in
    record {
      number = number;
      lent = λ own new lent. lent_stays (reading_first pages own) new lent
          (λ z. omega (arith, number_pos e, number own, z));
    }

pub found_refused : {pages : List ℕ} {e : Refusal} {places : List ℕ} → Finds pages (Err e) places
    → Refused pages (number_of e)
found_refused {pages} {e} f = refused_by e (finds_number f)

module _ {pages : List ℕ} {r : Found} {places : List ℕ} (f : Finds pages (Ok r) places) where
  -- The reading gives a layout.
  pub found_read : (host_reading pages).refusal ≡ 0
  found_read = sym (finds_number f)

  -- The places found are as many as are told,
  pub found_count : length (take r.count places) ≡ r.count
  found_count = let v = f.valid_at refl in length-take-le r.count places (omega (arith, f.room))

  -- and may be handed on: the components at them are those of a valid layout.
  pub found_places : let ps = take r.count places in ValidAt pages (length ps) ps
  found_places =
      let v = f.valid_at refl in
      rw (found_count, take_all r.count (take r.count places) (omega (arith, found_count)))
      (v.0, v.1, λ i h. rw (get_or-take r.count places i 0 h) (v.2 i h), v.3)

  -- The number of the call is its own.
  pub found_own : (own : ℕ) → reading_first pages own ≡ own
  found_own own = own_number pages own found_read

  -- The layout that is read is valid,
  pub found_valid : valid (host_layout pages) ≡ true
  found_valid = host_valid pages found_read

  -- and has the components at the places found.
  pub found_components : host_components pages ≡ components_at pages (take r.count places)
  found_components =
      let cs = components_at pages (take r.count places) in
      let n = length-map (take r.count places) (component_at pages) in
      ap view (f.layout refl) ∙ view_pack r.generation cs (omega (arith, found_count, (f.valid_at refl).1))

  -- A layout that is made of them is the layout that is read.
  pub found_layout : (l : Layout) → l ≡ packed r.generation (components_at pages (take r.count places))
      → l ≡ host_layout pages
  found_layout l e = e ∙ sym (f.layout refl)

  -- What a call answers of the components at the places found, by its own number and what it gives, is what the call
  -- on pages answers.
  pub found_answer : {A : Type 0} (own : List Component → ℕ) (given : List Component → A) {x : Answer A}
      → (let cs = components_at pages (take r.count places) in x ≡ answer (own cs) (given cs))
      → x ≡ answer (reading_first pages (own (host_components pages))) (given (host_components pages))
  found_answer own given e = rw (found_own, found_components) e

-- The same of the components that were read.
pub read_answer : {A : Type 0} (pages : List ℕ) (cs : List Component) (own : List Component → ℕ)
    → (given : List Component → A) {x : Answer A} → (host_reading pages).refusal ≡ 0 → cs ≡ host_components pages
    → x ≡ answer (own cs) (given cs)
    → x ≡ answer (reading_first pages (own (host_components pages))) (given (host_components pages))
read_answer pages cs own given z same e = rw (own_number pages (own (host_components pages)) z, ← same) e
