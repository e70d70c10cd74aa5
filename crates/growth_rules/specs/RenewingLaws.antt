-- The init components that steps make: with another extent, on chosen object records, or new.
use Rattle.std.specs.Prelude.{ℕ, ◌≤◌, ◌<◌, ◌≡◌, refl, List, [], true, false, pos, length, get_or}
use Rattle.std.proofs.Common.{sym, ap, ◌∙◌, arith, get_or-take}
use Rattle.lists.specs.Bools.{clash}
use Rattle.lists.specs.Counting.{count}
use Rattle.layout.specs.declared.Object.{Object}
use Rattle.layout.specs.declared.Component.{Component}
use Rattle.layout.specs.Records.{no_object, pack_objects, records_of}
use Rattle.layout.specs.RecordLaws.{records_pack}
use Rattle.layout.specs.Distinct.{same_object}
use Rattle.layout.specs.Facts.{Striped, IsInit, IsBare}
use Rattle.growth_rules.specs.Parts.{with_extent, made_init, repeat_of}
use Rattle.growth_rules.specs.Replacing.{Renewed, Chosen}

-- Chosen object records that are in the places of an init component, as many as its stripes, are its object records.
chosen_records : {s : ℕ} {os : List Object} (c : Component) → c.init ≡ true → c.objects ≡ pack_objects os → c.stripe_count ≡ s
    → s ≤ 16 → Chosen s os → records_of c ≡ os
chosen_records {s} {os} c i p e few ch = rw (i, p, e, ← ch.enough) (records_pack os (omega (arith, ch.enough)))

-- A component on chosen object records is init.
chosen_init : {s : ℕ} {os : List Object} (c : Component) → c.init ≡ true → c.extension ≡ false → Striped c → c.begin < c.end
    → c.objects ≡ pack_objects os → c.stripe_count ≡ s → Chosen s os
    → c.first_target ≡ pos (get_or c.objects 0 no_object).target → IsInit c
chosen_init c i x s h p e ch first =
    let same = chosen_records c i p e (omega (arith, s.few)) ch in
    let here : get_or (records_of c) 0 no_object ≡ get_or c.objects 0 no_object =
    rw i (get_or-take c.stripe_count c.objects 0 no_object s.some) in
    record {
      init = i;
      extension = x;
      striped = s;
      extent = h;
      records = ap length same ∙ ch.enough ∙ sym e;
      first = first ∙ ap (λ (o : Object). pos o.target) (sym here);
      targets = rw same ch.targets;
    }

-- An init component with another extent may replace itself.
pub init_renewed : (c : Component) (begin end : ℕ) → IsInit c → begin < end → Renewed c (with_extent begin end c) []
init_renewed c begin end k h = record {
  kind = record {
    init = k.init;
    extension = k.extension;
    striped = record {
      some = k.striped.some;
      few = k.striped.few;
      size = k.striped.size;
      no_extension = k.striped.no_extension;
    };
    extent = h;
    records = k.records;
    first = k.first;
    targets = k.targets;
  };
  id = refl;
  readings = λ read n i b. n begin end c b;
  objects = λ o. omega arith;
}

-- A bare component that is made init on chosen object records may replace itself.
pub bare_renewed : (c : Component) (begin end : ℕ) (os : List Object) → IsBare c → Chosen c.stripe_count os → begin < end
    → Renewed c (with_extent begin end (made_init os c)) os
bare_renewed c begin end os k ch h =
    let made = with_extent begin end (made_init os c) in
    record {
      kind = chosen_init made refl k.extension
          record {
            some = k.striped.some;
            few = k.striped.few;
            size = k.striped.size;
            no_extension = k.striped.no_extension;
          }
          h refl refl ch refl;
      id = refl;
      readings = λ read n i. clash i k.init;
      objects = λ o.
          let none : count same_object o (records_of c) ≡ 0 = rw k.init in
          let same = chosen_records made refl refl refl k.striped.few ch in
          omega (arith, none, ap (λ (os : List Object). count same_object o os) same);
    }

module _ (new : ℕ) (c : Component) (begin end : ℕ) (os : List Object) (k : IsInit c) (ch : Chosen c.stripe_count os) where
  -- The repeat of an init component is init,
  pub repeat_init : begin < end → IsInit (repeat_of new c begin end os)
  repeat_init h =
      chosen_init (repeat_of new c begin end os) refl refl
      record { some = k.striped.some; few = k.striped.few; size = k.striped.size; no_extension = refl }
      h refl refl ch refl

  -- and its object records are the chosen ones.
  pub repeat_records : records_of (repeat_of new c begin end os) ≡ os
  repeat_records = chosen_records (repeat_of new c begin end os) refl refl refl k.striped.few ch
