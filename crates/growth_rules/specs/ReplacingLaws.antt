-- The changes that steps are made of, and that each keeps what a step keeps.
use Rattle.std.specs.Prelude.{ℕ, ◌≤◌, ◌<◌, ◌≡◌, refl, List, [], ◌∷◌, Bool, true, false, not, ◌&&◌, ltb, leb, eqb, length}
use Rattle.std.proofs.Common.{sym, ap, ◌∙◌, arith, ltb-true, leb-true, eqb-true, lt-ltb, le-leb, ne_eqb}
use Rattle.std.proofs.Math.Option.{some, none-ne-some}
use Rattle.std.proofs.lemmas.Bool.{eqb-false}
use Rattle.lists.specs.Bools.{cond_elim, bool_cases, clash, both_true, true_both}
use Rattle.lists.specs.Counting.{count, count_append}
use Rattle.layout.specs.declared.Object.{Object}
use Rattle.layout.specs.declared.Component.{Component}
use Rattle.layout.specs.Records.{records_of, records_in}
use Rattle.layout.specs.Neighbours.{is_empty}
use Rattle.layout.specs.Distinct.{same_object}
use Rattle.layout.specs.Facts.{IsInit, IsExtension, is_init, is_extension, Fields, Follower, Linked}
use Rattle.layout.specs.FactLaws.{kind_ordered, starts_extension, follower_empty}
use Rattle.mapping.specs.Homes.{init_at, reading_of}
use Rattle.growth_rules.specs.Parts.{with_extent, leaving}
use Rattle.growth_rules.specs.Replacing.{Replaced, Renewed}

-- A byte lies in an init component exactly if the component is init and its extent holds the byte.
init_in : (c : Component) (b : ℕ) → init_at b c ≡ true → (c.init ≡ true) × (c.begin ≤ b) × (b < c.end)
init_in c b e =
    let p = both_true c.init (leb c.begin b && ltb b c.end) e in
    let q = both_true (leb c.begin b) (ltb b c.end) p.1 in
    (p.0, leb-true c.begin b q.0, ltb-true b c.end q.1)

in_init_lem : (c : Component) (b : ℕ) → c.init ≡ true → c.begin ≤ b → b < c.end → init_at b c ≡ true
in_init_lem c b i h k = true_both i (true_both (le-leb c.begin b h) (lt-ltb b c.end k))

-- It does not lie in one that ends at or before it.
past_init : (c : Component) (b : ℕ) → c.end ≤ b → init_at b c ≡ false
past_init c b h = bool_cases (init_at b c) (λ e. absurd (omega (arith, init_in c b e))) (λ e. e)

-- A list may be after a component that is no extension if it may be elsewhere.
pub linked_may : (at : ℕ) (may : Bool) (t : List Component) → Linked false at may t → Linked false at true t
linked_may at may [] k = tt
linked_may at may (c ∷ t) k = (k.0, (λ e. refl), k.2, k.3)

-- The neighbour rule of a component that is not empty and what follows it.
follower_held : (c : Component) (t : List Component) → c.begin < c.end → (c.init ≡ false → starts_extension t ≡ false)
    → Follower false c t
follower_held c [] h s = λ m. ne_eqb c.begin c.end (λ e. omega arith)
follower_held c (d ∷ t) h s = λ i. ne_eqb c.begin c.end (λ e. omega arith) ∙ sym (s i)

-- The neighbour rule of a component before others, by whether the first of them is an extension.
follower_before : (c : Component) (t : List Component) → 1 ≤ length t
    → (c.init ≡ false → is_empty c.begin c.end ≡ starts_extension t) → Follower false c t
follower_before c [] h s = absurd (omega arith)
follower_before c (d ∷ t) h s = s

module _ {A : Type 0} (read : Component → ℕ → A) (b : ℕ) (a : A) where
  -- The reading after a component in which the byte does not lie,
  reading_after : (c : Component) (t : List Component) → init_at b c ≡ false → reading_of read b (c ∷ t) ≡ reading_of read b t
  reading_after c t e = rw e

  -- and by one in which it does.
  reading_here : (c : Component) (t : List Component) → init_at b c ≡ true → reading_of read b (c ∷ t) ≡ some (read c b)
  reading_here c t e = rw e

  -- A byte of which components say something lies at or above the place where they begin.
  reading_above : (at : ℕ) (may : Bool) (t : List Component) → Fields t → Linked false at may t → reading_of read b t ≡ some a
      → at ≤ b
  reading_above at may [] f k e = absurd (none-ne-some a e)
  reading_above at may (c ∷ t) f k e =
      bool_cases (init_at b c) (λ q. omega (arith, init_in c b q))
      (λ q. omega (arith, kind_ordered f.1, reading_above c.end (not c.extension) t f.2 k.3 (rw q at e)))

-- Components that stay as they are.
pub replaced_same : (at : ℕ) (may : Bool) (t : List Component) → Fields t → Linked false at may t → Replaced at at true t t [] []
replaced_same at may t f k = record {
  fields = f;
  linked = linked_may at may t k;
  readings = λ read n b a e. e;
  ends = refl;
  objects = λ o. omega arith;
  ids = λ i. omega arith;
}

-- An id that may be added need not be.
pub replaced_new : {from to : ℕ} {may : Bool} {t t' : List Component} {os : List Object} (new : ℕ)
    → Replaced from to may t t' os [] → Replaced from to may t t' os (new ∷ [])
replaced_new new k = record {
  fields = k.fields;
  linked = k.linked;
  readings = k.readings;
  ends = k.ends;
  objects = k.objects;
  ids = λ i. omega (arith, k.ids i);
}

-- A component before those that are changed. If it is not init, an extension follows afterwards exactly if one did.
pub replaced_after : {at : ℕ} {may : Bool} {t' : List Component} {os : List Object} {new : List ℕ}
    (c : Component) (t : List Component) → Fields (c ∷ t) → Linked false at may (c ∷ t)
    → 1 ≤ length t' → (c.init ≡ false → starts_extension t' ≡ starts_extension t)
    → Replaced c.end c.end (not c.extension) t t' os new → Replaced at at may (c ∷ t) (c ∷ t') os new
replaced_after {t' = t'} c t f k filled first replaced = record {
  fields = (f.0, f.1, replaced.fields);
  linked = (
    k.0,
    k.1,
    follower_before c t' filled (λ i. follower_empty c t k.2 i ∙ sym (first i)),
    replaced.linked,
  );
  readings = λ read n b a e.
      bool_cases (init_at b c) (λ q. reading_here read b a c t' q ∙ sym (reading_here read b a c t q) ∙ e)
      (λ q. reading_after read b a c t' q ∙ replaced.readings read n b a (sym (reading_after read b a c t q) ∙ e));
  ends = replaced.ends;
  objects = λ o. omega (
    arith,
    replaced.objects o,
    count_append same_object o (records_of c) (records_in t),
    count_append same_object o (records_of c) (records_in t'),
  );
  ids = λ i. omega (arith, replaced.ids i);
}

-- An extension has no object records.
no_records : {x : Component} → IsExtension x → (o : Object) → count same_object o (records_of x) ≡ 0
no_records {x} k o = rw k.init

-- An extension before those that are changed goes.
pub replaced_gone : {from to : ℕ} {may : Bool} {t t' : List Component} {os : List Object} {new : List ℕ}
    (x : Component) → IsExtension x → Replaced x.end to may t t' os new → Replaced from to may (x ∷ t) t' os new
replaced_gone {t = t} x is replaced = record {
  fields = replaced.fields;
  linked = replaced.linked;
  readings = λ read n b a e.
      replaced.readings read n b a (sym (reading_after read b a x t (not_init b)) ∙ e);
  ends = replaced.ends;
  objects = λ o. omega (arith, replaced.objects o, no_records is o, count_append same_object o (records_of x) (records_in t));
  ids = λ i. omega (arith, replaced.ids i);
}
  where
    -- No byte lies in an init component by an extension.
    not_init : (b : ℕ) → init_at b x ≡ false
    not_init b = bool_cases (init_at b x) (λ e. clash (init_in x b e).0 is.init) (λ e. e)

-- A component is renewed, and those after it are changed. If it was init, its new extent holds the old one.
pub replaced_renewed : {from to : ℕ} {may : Bool} {t' : List Component} {os : List Object}
    (c c' : Component) (t : List Component) → Fields (c ∷ t) → Renewed c c' os → c'.begin ≡ to
    → (c.init ≡ true → (to ≤ c.begin) × (c.end ≤ c'.end))
    → Replaced c.end c'.end true t t' [] [] → Replaced from to may (c ∷ t) (c' ∷ t') os []
replaced_renewed {to = to} {t' = t'} {os = os} c c' t f r at wider replaced = record {
  fields = (omega (arith, f.0, r.id), is_init r.kind, replaced.fields);
  linked = (
    at,
    (λ e. clash e r.kind.extension),
    follower_held c' t' r.kind.extent (λ i. clash r.kind.init i),
    rw r.kind.extension replaced.linked,
  );
  readings = λ read n b a e.
      bool_cases (init_at b c)
      (λ q. let p = init_in c b q in
      let within = in_init_lem c' b r.kind.init (omega (arith, p, at, wider p.0)) (omega (arith, p, wider p.0)) in
      reading_here read b a c' t' within ∙ ap some (r.readings read n p.0 b) ∙ sym (reading_here read b a c t q) ∙ e)
      (λ q. let there = replaced.readings read n b a (sym (reading_after read b a c t q) ∙ e) in
      let above = reading_above read b a c'.end true t' replaced.fields replaced.linked there in
      reading_after read b a c' t' (past_init c' b above) ∙ there);
  ends = replaced.ends;
  objects = λ o. omega (
    arith,
    r.objects o,
    replaced.objects o,
    count_append same_object o (records_of c) (records_in t),
    count_append same_object o (records_of c') (records_in t'),
  );
  ids = λ i. rw r.id (omega (arith, replaced.ids i));
}

-- An init component is added before those that are changed.
pub replaced_added : {from to : ℕ} {may : Bool} {t t' : List Component} {os : List Object}
    (c : Component) → IsInit c → records_of c ≡ os → 1 ≤ c.id → c.begin ≡ to
    → Replaced from c.end true t t' [] [] → Replaced from to may t (c ∷ t') os (c.id ∷ [])
replaced_added {t' = t'} c is same id at replaced = record {
  fields = (id, is_init is, replaced.fields);
  linked = (
    at,
    (λ e. clash e is.extension),
    follower_held c t' is.extent (λ i. clash is.init i),
    rw is.extension replaced.linked,
  );
  readings = λ read n b a e.
      let there = replaced.readings read n b a e in
      let above = reading_above read b a c.end true t' replaced.fields replaced.linked there in
      reading_after read b a c t' (past_init c b above) ∙ there;
  ends = replaced.ends;
  objects = λ o. omega (
    arith,
    replaced.objects o,
    count_append same_object o (records_of c) (records_in t'),
    ap (λ (os : List Object). count same_object o os) same,
  );
  ids = λ i. omega (arith, replaced.ids i);
}

-- An extension whose first bytes are gone, or that goes if it is empty.
pub replaced_leaving : (from at : ℕ) (may : Bool) (x : Component) (t : List Component) → Fields (x ∷ t)
    → Linked false from may (x ∷ t) → IsExtension x → at ≤ x.end → Replaced from at true (x ∷ t) (leaving at x t) [] []
unfolding leaving
replaced_leaving from at may x t f k is h =
    cond_elim (λ (u : List Component). Replaced from at true (x ∷ t) u [] []) (eqb at x.end)
    (λ e. replaced_gone x is (rw (eqb-true at x.end e) (replaced_same x.end (not x.extension) t f.2 k.3)))
    (λ e. left (omega (arith, eqb-false at x.end e)))
  where
    -- No extension follows an extension.
    plain : starts_extension t ≡ false
    plain = sym (follower_empty x t k.2 is.init) ∙ ne_eqb x.begin x.end (λ e. omega (arith, is.extent))

    -- Something is left of it.
    left : at < x.end → Replaced from at true (x ∷ t) (with_extent at x.end x ∷ t) [] []
    left h = record {
      fields = (f.0, is_extension kind, f.2);
      linked = (refl, (λ e. refl), follower_held (with_extent at x.end x) t h (λ i. plain), k.3);
      readings = λ read n b a e.
          reading_after read b a (with_extent at x.end x) t (rw is.init)
          ∙ sym (reading_after read b a x t (rw is.init))
          ∙ e;
      ends = refl;
      objects = λ o. omega (
        arith,
        no_records is o,
        no_records kind o,
        count_append same_object o (records_of x) (records_in t),
        count_append same_object o (records_of (with_extent at x.end x)) (records_in t),
      );
      ids = λ i. omega arith;
    }
      where
        kind : IsExtension (with_extent at x.end x)
        kind = record {
          init = is.init;
          extension = is.extension;
          extent = h;
          no_stripes = is.no_stripes;
          no_size = is.no_size;
          size = is.size;
          first = is.first;
        }
