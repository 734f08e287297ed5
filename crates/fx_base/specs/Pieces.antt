-- The octets of a source, piece by piece.
use Rattle.std.specs.Prelude.{ℕ, List}

-- The abstract state of a reader of pieces.
pub record Pieces : Type 0 where
  -- the current piece
  pub piece : List ℕ
  -- the number of calls that it has made
  pub calls : ℕ
