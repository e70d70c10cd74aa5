-- What holds from one moment of a list of calls to each later one: the layout stays valid, every reading that does not
-- look at the extent stays, and the last end stays.
use Rattle.std.specs.Prelude.{ℕ, zero, suc, ◌+◌, ◌≤◌, ◌<◌, ◌≡◌, refl, List, [], ◌∷◌, true, false, ltb, length, get_or}
use Rattle.std.proofs.Common.{sym, ap, ◌∙◌, arith}
use Rattle.std.proofs.Math.Option.{some}
use Rattle.layout.specs.declared.Object.{Object}
use Rattle.layout.specs.declared.Component.{Component}
use Rattle.layout.specs.declared.Layout.{Layout}
use Rattle.layout.specs.Records.{view, packed}
use Rattle.layout.specs.RecordLaws.{view_pack}
use Rattle.layout.specs.Rules.{valid}
use Rattle.layout.specs.FactLaws.{valid_facts}
use Rattle.layout.specs.Holder.{covers, last_end}
use Rattle.layout.specs.HolderLaws.{covers_last}
use Rattle.mapping.specs.Homes.{home_in, reading_of}
use Rattle.mapping.specs.declared.Piece.{Piece}
use Rattle.mapping.specs.Cutting.{cut_pieces}
use Rattle.growth_rules.specs.Steps.{Call}
use Rattle.growth_rules.specs.Growing.{Outcome}
use Rattle.growth_rules.specs.Moments.{after_call, moments}
use Rattle.growth_rules.specs.Parts.{NoExtent}
use Rattle.growth_rules.specs.Readings.{byte_piece}
use Rattle.growth_rules.proofs.ReadingLaws.{byte_pieces}
use Rattle.growth_rules.specs.CallFacts.{Grown}
use Rattle.growth_rules.specs.CallCases.{Called, refused, unchanged, grown}
use Rattle.growth_rules.proofs.CallCases.{call_cases}
use Rattle.growth_rules.proofs.ValidityLaws.{step_changed, changed_valid}

-- The home by a component does not look at the component's extent.
pub home_no_extent : NoExtent home_in
unfolding home_in
home_no_extent begin end c b = refl

-- The piece of a single byte by a component does not look at it either.
pub piece_no_extent : NoExtent byte_piece
piece_no_extent begin end c b = refl

-- The layout l' comes of l by calls: it is valid, every reading that does not look at the extent stays, and the last
-- end stays.
record Follows (l l' : Layout) : Type 1 where
  sound : valid l' ≡ true
  readings : {A : Type 0} (read : Component → ℕ → A) → NoExtent read → (b : ℕ) (a : A)
      → reading_of read b (view l) ≡ some a
      → reading_of read b (view l') ≡ some a
  ends : last_end (view l') ≡ last_end (view l)

-- A layout comes of itself by no call.
follows_same : (l : Layout) → valid l ≡ true → Follows l l
follows_same l v = record { sound = v; readings = λ read n b a e. e; ends = refl }

-- What comes of what comes of a layout comes of it.
follows_on : (l m n : Layout) → Follows l m → Follows m n → Follows l n
follows_on l m n p q =
    record {
      sound = q.sound;
      readings = λ read x b a e. q.readings read x b a (p.readings read x b a e);
      ends = q.ends ∙ p.ends;
    }

module _ (l : Layout) (k : Call) (v : valid l ≡ true) where
  -- The layout that a change gives.
  grown_follows : (cs : List Component) (os : List Object) → Grown l k cs os → Follows l (packed (l.generation + 1) cs)
  grown_follows cs os g =
      let replaced = (step_changed l k v g.table cs os g.step).replaced in
      let whole = view_pack (l.generation + 1) cs g.few in
      record {
        sound = changed_valid l k v g.table cs os g.step g.few g.apart;
        readings = λ read n b a e. ap (reading_of read b) whole ∙ replaced.readings read n b a e;
        ends = ap last_end whole ∙ replaced.ends;
      }

  -- The layout of each of the cases that a call comes to,
  outcome_follows : {o : Outcome} → Called l k o → Follows l o.layout
  outcome_follows (refused n e) = follows_same l v
  outcome_follows unchanged = follows_same l v
  outcome_follows (grown cs os g) = grown_follows cs os g

  -- and so the layout after a call, comes of the one that it was given.
  call_follows : Follows l (after_call l k)
  call_follows = outcome_follows (call_cases l k)

-- Each moment comes of the start,
start_follows : (d l : Layout) (ks : List Call) → valid l ≡ true → (j : ℕ) → j < length (moments l ks)
    → Follows l (get_or (moments l ks) j d)
start_follows d l ks v zero h = follows_same l v
start_follows d l [] v (suc j) h = absurd (omega arith)
start_follows d l (k ∷ ks) v (suc j) h =
    let c = call_follows l k v in
    follows_on l (after_call l k) (get_or (moments (after_call l k) ks) j d) c
    (start_follows d (after_call l k) ks c.sound j (omega arith))

-- and of each moment before it.
moment_follows : (d l : Layout) (ks : List Call) → valid l ≡ true → (i j : ℕ) → i ≤ j → j < length (moments l ks)
    → Follows (get_or (moments l ks) i d) (get_or (moments l ks) j d)
moment_follows d l ks v zero j le h = start_follows d l ks v j h
moment_follows d l ks v (suc i) zero le h = absurd (omega arith)
moment_follows d l [] v (suc i) (suc j) le h = absurd (omega arith)
moment_follows d l (k ∷ ks) v (suc i) (suc j) le h =
    moment_follows d (after_call l k) ks (call_follows l k v).sound i j (omega arith) (omega arith)

module _ (l : Layout) (ks : List Call) (v : valid l ≡ true) where
  -- The layout of every moment is valid.
  pub moment_valid : (j : ℕ) → j < length (moments l ks) → valid (get_or (moments l ks) j l) ≡ true
  moment_valid j h = (start_follows l l ks v j h).sound

  -- What a reading that does not look at the extent gives at a moment, it gives at every later one.
  pub reading_kept : {A : Type 0} (read : Component → ℕ → A) → NoExtent read → (i j : ℕ) → i ≤ j
      → j < length (moments l ks)
      → (b : ℕ) (a : A) → reading_of read b (view (get_or (moments l ks) i l)) ≡ some a
      → reading_of read b (view (get_or (moments l ks) j l)) ≡ some a
  reading_kept read n i j le h b a e = (moment_follows l l ks v i j le h).readings read n b a e

  -- So the one piece of a single byte that lies in an init component stays. Of longer requests nothing is said here.
  pub byte_piece_kept : (i j : ℕ) → i ≤ j → j < length (moments l ks) → (b : ℕ) (p : Piece)
      → reading_of byte_piece b (view (get_or (moments l ks) i l)) ≡ some p
      → cut_pieces b 1 (view (get_or (moments l ks) j l)) ≡ p ∷ []
  byte_piece_kept i j le h b p e =
      byte_pieces (valid_facts (get_or (moments l ks) j l) (moment_valid j h)).keeps b p
      (reading_kept byte_piece piece_no_extent i j le h b p e)

  -- Every moment covers the bytes that the start covers.
  pub moment_covers : (j : ℕ) → j < length (moments l ks) → (b : ℕ)
      → covers (view (get_or (moments l ks) j l)) b ≡ covers (view l) b
  moment_covers j h b =
      let later = get_or (moments l ks) j l in
      let here = (valid_facts l v).keeps in
      let there = (valid_facts later (moment_valid j h)).keeps in
      covers_last false (view later) there.linked there.fields b
      ∙ ap (λ (end : ℕ). ltb b end) (start_follows l l ks v j h).ends
      ∙ sym (covers_last false (view l) here.linked here.fields b)
