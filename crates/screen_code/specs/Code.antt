-- What a reader has to believe of resource codes: which is one, and when two are the same.
use Rattle.std.specs.Prelude.{ℕ, zero, suc, ◌+◌, ◌*◌, ◌≤◌, ◌<◌, Bool, true, false, ◌&&◌, ◌||◌, List, [], ◌∷◌, eqb, length, take, drop}
use Rattle.body_formats.specs.Format.{decimal}
use Rattle.body_formats.specs.Resource.{resource_bytes}

-- "23 bytes of one digit each", none of them "above 9"
unfoldable pub is_code : List ℕ → Bool
is_code code = eqb (length code) 23 && decimal code

-- as many numbers, each the other's: "equals the box's code digit for digit"
unfoldable pub same : List ℕ → List ℕ → Bool
same [] [] = true
same [] (y ∷ ys) = false
same (x ∷ xs) [] = false
same (x ∷ xs) (y ∷ ys) = eqb x y && same xs ys

-- one of them is the code
unfoldable pub has : List ℕ → List (List ℕ) → Bool
has code [] = false
has code (c ∷ cs) = same c code || has code cs

-- ---- codes in a body, each in twelve bytes

unfoldable pub same_at : List ℕ → ℕ → List ℕ → Bool
same_at s p own = same (take resource_bytes (drop p s)) own

-- n codes, the first at p, lie in the body
abbrev pub InBody : List ℕ → ℕ → ℕ → Type 0
InBody s p n = (k : ℕ) → k < n → p + resource_bytes * k + resource_bytes ≤ length s

-- one of n, the first at p
unfoldable pub listed : List ℕ → ℕ → ℕ → List ℕ → Bool
listed s p zero own = false
listed s p (suc n) own = same_at s p own || listed s (p + resource_bytes) n own
