-- The piece of a single byte, as a reading of a component.
use Rattle.std.specs.Prelude.{ℕ, ◌+◌}
use Rattle.layout.specs.declared.Component.{Component}
use Rattle.mapping.specs.declared.Piece.{Piece}
use Rattle.mapping.specs.Cutting.{piece_from}

-- The piece of byte b by a component: its offset is b, its length 1, and it tells the component's id, the stripe and the
-- object byte of b. Of a byte that lies in an init component it is the one piece of the request of that byte alone
-- (`ReadingLaws: byte_pieces`).
abbrev pub byte_piece : Component → ℕ → Piece
byte_piece c b = piece_from c.id c.stripe_size c.stripe_count b (b + 1)
