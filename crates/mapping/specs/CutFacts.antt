-- What the laws of cutting say of pieces; `CutTheorem` has the theorem that it holds of every request that is accepted.
use Rattle.std.specs.Prelude.{ℕ, ◌+◌, ◌<◌, ◌≡◌, List, [], ◌∷◌, false, cond, eqb, length}
use Rattle.std.proofs.Math.Option.{Option, none, some}
use Rattle.std.proofs.Math.ListN.{get_elem?}
use Rattle.layout.specs.declared.Object.{Object}
use Rattle.layout.specs.declared.Component.{Component}
use Rattle.layout.specs.Records.{records_of}
use Rattle.mapping.specs.declared.Piece.{Piece}
use Rattle.mapping.specs.Homes.{in_object, home_of}
use Rattle.mapping.specs.CutPlaces.{cut_place, count_by_places}

-- Each piece of a list has a property.
abbrev pub Each : (Piece → Type 0) → List Piece → Type 0
Each P [] = Unit {0}
Each P (p ∷ ps) = P p × Each P ps

-- "Pieces stand in file order and together are the request": the first begins at a, each next one where the one before
-- ends, the last ends at b, and none is empty.
abbrev pub Tiles : ℕ → ℕ → List Piece → Type 0
Tiles a b [] = a ≡ b
Tiles a b (p ∷ ps) = (p.offset ≡ a) × (0 < p.length) × Tiles (a + p.length) b ps

-- A piece crosses no component border and no multiple of the component's stripe size: no cut place lies strictly inside
-- it.
abbrev pub Uncut : List Component → Piece → Type 0
Uncut cs p = (q : ℕ) → p.offset < q → q < p.offset + p.length → cut_place cs q ≡ false

-- The object record of stripe i of the component with an id; none if there is no such component or stripe.
abbrev pub stripe_object : List Component → ℕ → ℕ → Option Object
stripe_object [] id i = none
stripe_object (c ∷ cs) id i = cond (eqb id c.id) (get_elem? (records_of c) i) (stripe_object cs id i)

-- The component with the piece's id has an object for the piece's stripe, and byte d of the piece has the home in that
-- object at the piece's object byte plus d.
pub record AtHome (cs : List Component) (p : Piece) : Type 0 where
  pub object : Object
  pub named : stripe_object cs p.id p.stripe ≡ some object
  pub home : (d : ℕ) → d < p.length → home_of (p.offset + d) cs ≡ some (in_object object (p.byte + d))

-- What holds of the pieces of a request of m bytes from offset a that is accepted with the answer k.
pub record Cut (a m k : ℕ) (cs : List Component) (ps : List Piece) : Type 0 where
  -- The answer is the number of pieces,
  pub counted : k ≡ length ps
  -- which is the number of different cut places strictly inside the request plus one, or 0 for length 0.
  pub by_places : k ≡ count_by_places a m cs
  pub tiles : Tiles a (a + m) ps
  pub uncut : Each (Uncut cs) ps
  pub at_home : Each (AtHome cs) ps
