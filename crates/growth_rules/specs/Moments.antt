-- Lists of calls, and what demand 3 asks of them. "Each next one gets the layout that the call before it gave back or,
-- if that call refused, the one it was given. Offset, mark and table are each call's own and may be anything."
use Rattle.std.specs.Prelude.{ℕ, ◌≤◌, ◌<◌, ◌≡◌, List, [], ◌∷◌, ◌≢◌, length, get_or}
use Rattle.std.proofs.Math.Option.{some}
use Rattle.layout.specs.declared.Layout.{Layout}
use Rattle.layout.specs.Records.{view}
use Rattle.layout.specs.Holder.{covers}
use Rattle.mapping.specs.Homes.{Home, home_of}
use Rattle.growth_rules.specs.Steps.{Call}
use Rattle.growth_rules.specs.Growing.{grow_of}

-- The layout after a call: the one that it gave back, or, if it refused, the one it was given.
abbrev pub after_call : Layout → Call → Layout
after_call l k = (grow_of l k).layout

-- The layouts after each call of a list.
abbrev pub after_calls : Layout → List Call → List Layout
after_calls l [] = []
after_calls l (k ∷ ks) = after_call l k ∷ after_calls (after_call l k) ks

-- The moments of a list of calls: the start, and after each call.
abbrev pub moments : Layout → List Call → List Layout
moments l ks = l ∷ after_calls l ks

-- Demand 3 on the layouts ms of a list of moments that starts with l.
pub record Demand3 (l : Layout) (ms : List Layout) : Type 0 where
  -- A byte that has a home at a moment has exactly that home at every later one.
  pub stay : (i j : ℕ) → i ≤ j → j < length ms → (b : ℕ) (h : Home) → home_of b (view (get_or ms i l)) ≡ some h
      → home_of b (view (get_or ms j l)) ≡ some h
  -- Two different bytes, each looked at in any moment, have different homes if both have one.
  pub apart : (i j : ℕ) → i < length ms → j < length ms → (b b' : ℕ) → b ≢ b' → (h h' : Home)
      → home_of b (view (get_or ms i l)) ≡ some h → home_of b' (view (get_or ms j l)) ≡ some h' → h ≢ h'
  -- The stretch covered by all components together is exactly that of the start.
  pub cover : (j : ℕ) → j < length ms → (b : ℕ) → covers (view (get_or ms j l)) b ≡ covers (view l) b
