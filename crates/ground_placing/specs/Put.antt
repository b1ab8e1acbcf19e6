-- What every writer that goes through a buffer promises: its bytes stand at a place of the output, and all others stay.
use Rattle.std.specs.Prelude.{ℕ, ◌+◌, ◌≤◌, List, ◌≡◌, length}
use Rattle.ground_placing.specs.Placed.{placed}

-- the bytes had room and stand at a place, and the writer answers the place after them
pub record Put (old : List ℕ) (at : ℕ) (bytes new : List ℕ) (next : ℕ) : Type 0 where
  pub fits : at + length bytes ≤ length old
  pub written : new ≡ placed old at bytes
  pub after : next ≡ at + length bytes
