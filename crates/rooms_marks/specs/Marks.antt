-- What a reader has to believe of the marks that one pass over the rooms sets: 0 for a free room, 1 for a held one, 2 for one held twice or more.
use Rattle.std.specs.Prelude.{ℕ, zero, suc, ◌+◌, min, Bool, true, ◌&&◌, List, [], ◌∷◌, eqb, leb, get_or, set, replicate, if◌then◌else◌}

-- one mark more at a room; 0, which stands for no room, and a number past the marks have none
unfoldable pub raised_at : List ℕ → ℕ → List ℕ
raised_at marks zero = marks
raised_at marks (suc r) = set marks (suc r) (min 2 (get_or marks (suc r) 0 + 1))

-- at each room of the list
unfoldable pub marked : List ℕ → List ℕ → List ℕ
marked marks [] = marks
marked marks (r ∷ rs) = marked (raised_at marks r) rs

-- the marks of both networks' rooms
unfoldable pub marks_of : List ℕ → List ℕ → List ℕ
marks_of one two = marked (marked (replicate 513 0) one) two

-- the first of the n rooms from r on whose mark is 0; 0 if there is none
unfoldable pub free_mark : List ℕ → ℕ → ℕ → ℕ
free_mark marks r zero = 0
free_mark marks r (suc n) = if eqb (get_or marks r 0) 0 then r else free_mark marks (suc r) n

-- none of the n marks from r on is 2
unfoldable pub all_once : List ℕ → ℕ → ℕ → Bool
all_once marks r zero = true
all_once marks r (suc n) = leb (get_or marks r 0) 1 && all_once marks (suc r) n
