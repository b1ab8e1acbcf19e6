-- What a reader has to believe of the order in which messages are shown: rows of numbers, of which the first that differs decides.
use Rattle.std.specs.Prelude.{ℕ, Bool, false, cond, List, [], ◌∷◌, ltb, eqb, Option, Some, None}
use Rattle.screen_order.specs.declared.Candidate.{Candidate}

-- at the first place where two rows differ, the smaller number comes first
unfoldable pub comes_first : List ℕ → List ℕ → Bool
comes_first [] ys = false
comes_first (x ∷ xs) [] = false
comes_first (x ∷ xs) (y ∷ ys) = cond (eqb x y) (comes_first xs ys) (ltb x y)

-- "the smallest level number, then the earliest start, then the first in the table"
unfoldable pub rank_by : ℕ → ℕ → ℕ → ℕ → List ℕ
rank_by level day second number = level ∷ day ∷ second ∷ number ∷ []

abbrev pub rank_of : Candidate → List ℕ
rank_of c = rank_by c.level c.day c.second c.number

unfoldable pub better_of : Option Candidate → Candidate → Option Candidate
better_of None next = Some next
better_of (Some held) next = cond (comes_first (rank_of next) (rank_of held)) (Some next) (Some held)
