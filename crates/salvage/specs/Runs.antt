-- What a reader has to believe of the list of runs: what each says, and the three numbers that it is told by.
use Rattle.std.specs.Prelude.{ℕ, ◌+◌, Bool, true, false, List, [], ◌∷◌, ◌++◌, eqb, length, if◌then◌else◌}
use Rattle.crc.specs.Crc.{digit}
use Rattle.salvage.specs.Reading.{Piece, kept, skipped, pieces}

-- ""kept" or "skipped", with first offset and length"
pub record Run : Type 0 where
  pub is_kept : Bool
  pub first : ℕ
  pub size : ℕ

-- "for each run of bytes", the first of them at a place
unfoldable pub runs_from : ℕ → List Piece → List Run
runs_from at [] = []
runs_from at (kept s ∷ ps) = record { is_kept = true; first = at; size = length s } ∷ runs_from (at + length s) ps
runs_from at (skipped s ∷ ps) = record { is_kept = false; first = at; size = length s } ∷ runs_from (at + length s) ps

unfoldable pub runs_of : List ℕ → List Run
runs_of capture = runs_from 0 (pieces capture)

-- the run of so many bytes at a place; of none there is no run
unfoldable pub run_at : Bool → ℕ → ℕ → List Run
run_at is_kept first size = if eqb size 0 then [] else record { is_kept = is_kept; first = first; size = size } ∷ []

-- three numbers for each run: 1 if it is kept, 0 if it is skipped; its first offset; its length
unfoldable pub numbers_of : List Run → List ℕ
numbers_of [] = []
numbers_of (r ∷ rs) = digit r.is_kept ∷ r.first ∷ r.size ∷ numbers_of rs
