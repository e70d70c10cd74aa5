-- What a page keeps of a component, and which components and heads a page can hold.
use Rattle.std.specs.Prelude.{ℕ, ◌^◌, ◌≤◌, ◌<◌, ◌≡◌, List, [], ◌∷◌, length, get_or, take}
use Rattle.std.proofs.Common.{sym, ap, ◌∙◌, arith, SFits}
use Rattle.std.specs.Int.{w32}
use Rattle.lists.specs.Bools.{cond_elim}
use Rattle.layout.specs.declared.Component.{Component}
use Rattle.layout.specs.Records.{no_object, record_count, records_of, pack_objects}
use Rattle.layout.specs.RecordLaws.{records_pack}
use Rattle.layout.specs.Facts.{Fields}
use Rattle.layout.specs.FactLaws.{kind_few}
use Rattle.page.specs.declared.Head.{Head}

-- The component with the unused places of its object array blank. A page holds this much of a component: the object
-- records are written, and what is in the places past them is not.
abbrev pub trimmed : Component → Component
trimmed c =
    record {
      init = c.init;
      extension = c.extension;
      id = c.id;
      stripe_count = c.stripe_count;
      stripe_size = c.stripe_size;
      first_target = c.first_target;
      begin = c.begin;
      end = c.end;
      extension_size = c.extension_size;
      objects = pack_objects (records_of c);
    }

-- The object records of a trimmed component are those of the component.
pub trimmed_records : (c : Component) → length (records_of c) ≡ record_count c → record_count c ≤ 16
    → records_of (trimmed c) ≡ records_of c
trimmed_records c e h =
    ap (λ (n : ℕ). take n (pack_objects (records_of c))) (sym e) ∙ records_pack (records_of c) (omega arith)

-- The numbers of a component fit their types, in memory and in a page: u16 for the id and the stripe count, u32 for the
-- stripe size, i32 for the first target, u64 for begin, end and extension size; and of each object record, u32 for the
-- target and u64 for the object number.
pub record NumbersFit (c : Component) : Type 0 where
  pub id : c.id < 2 ^ 16
  pub count : c.stripe_count < 2 ^ 16
  pub size : c.stripe_size < 2 ^ 32
  pub first : SFits w32 c.first_target
  pub begin : c.begin < 2 ^ 64
  pub end : c.end < 2 ^ 64
  pub extension : c.extension_size < 2 ^ 64
  pub targets : (i : ℕ) → i < length (records_of c) → (get_or (records_of c) i no_object).target < 2 ^ 32
  pub numbers : (i : ℕ) → i < length (records_of c) → (get_or (records_of c) i no_object).number < 2 ^ 64

-- A component that a page can hold: its numbers fit, and its array has as many object records as it is to have, at most
-- 16, as every component has that keeps refusal 6's rule.
pub record Fits (c : Component) : Type 0 where
  pub fit : NumbersFit c
  pub whole : length (records_of c) ≡ record_count c
  pub few : record_count c ≤ 16

-- Each component of the list fits.
abbrev pub AllFit : List Component → Type 0
AllFit [] = Unit {0}
AllFit (c ∷ cs) = Fits c × AllFit cs

-- The numbers of a head fit their fields in a page, and it counts the n components of its page: "u16 components in the
-- page, at least 1".
pub record FitsHead (h : Head) (n : ℕ) : Type 0 where
  pub number : h.number < 2 ^ 16
  pub generation : h.generation < 2 ^ 32
  pub counts : h.count ≡ n
  pub some : 1 ≤ n
  pub few : n < 2 ^ 16

-- Each component of the list is to have at most 16 object records.
abbrev pub Few : List Component → Type 0
Few [] = Unit {0}
Few (c ∷ cs) = (record_count c ≤ 16) × Few cs

-- Components that keep refusal 6's rule are each to have at most 16 object records.
pub fields_few : (cs : List Component) → Fields cs → Few cs
fields_few [] f = tt
fields_few (c ∷ cs) f =
    (cond_elim (λ (n : ℕ). n ≤ 16) c.init (λ i. kind_few f.1) (λ i. omega arith), fields_few cs f.2)
