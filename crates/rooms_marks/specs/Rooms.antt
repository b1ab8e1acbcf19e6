-- What a reader has to believe of the rooms that two networks hold. For each section number of a network its room stands in a list, as the room's number
-- and one more; 0 stands where the number has no room. So the rooms of a store are 1 to n here.
use Rattle.std.specs.Prelude.{ℕ, zero, suc, ◌+◌, Bool, true, ◌&&◌, List, [], ◌∷◌, eqb, leb, if◌then◌else◌}

-- how often x stands in a list
unfoldable pub count : ℕ → List ℕ → ℕ
count x [] = 0
count x (y ∷ ys) = if eqb y x then suc (count x ys) else count x ys

-- how many rooms a list holds: how many are not 0
unfoldable pub held_rooms : List ℕ → ℕ
held_rooms [] = 0
held_rooms (y ∷ ys) = if eqb y 0 then held_rooms ys else suc (held_rooms ys)

-- how often room r is held, by both networks together
unfoldable pub uses : ℕ → List ℕ → List ℕ → ℕ
uses r ps qs = count r ps + count r qs

-- "No room is ever held twice": none of the rooms 1 to n is
unfoldable pub none_twice : ℕ → List ℕ → List ℕ → Bool
none_twice zero ps qs = true
none_twice (suc r) ps qs = leb (uses (suc r) ps qs) 1 && none_twice r ps qs

-- how many of the rooms 1 to n nobody holds
unfoldable pub free_rooms : ℕ → List ℕ → List ℕ → ℕ
free_rooms zero ps qs = 0
free_rooms (suc n) ps qs = if eqb (uses (suc n) ps qs) 0 then suc (free_rooms n ps qs) else free_rooms n ps qs

-- the first of the n rooms from r on that nobody holds; 0 if there is none
unfoldable pub free_from : List ℕ → List ℕ → ℕ → ℕ → ℕ
free_from ps qs r zero = 0
free_from ps qs r (suc n) = if eqb (uses r ps qs) 0 then r else free_from ps qs (suc r) n

-- the room that is taken, where there are n: the first free one; 0 exactly "if every room is held"
unfoldable pub free_room : ℕ → List ℕ → List ℕ → ℕ
free_room n ps qs = free_from ps qs 1 n
