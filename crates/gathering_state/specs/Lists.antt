-- What a reader has to believe of the lists behind a gathering: the held lengths, one for each section number, and the store's bytes.
-- A held length is kept as one more than the payload's; 0 stands where the number is not held.
use Rattle.std.specs.Prelude.{ℕ, suc, ◌+◌, ◌-◌, max, ◌≡◌, List, [], ◌∷◌, eqb, take, drop, if◌then◌else◌}

-- the greatest of some numbers, and 0 of none
unfoldable pub greatest : List ℕ → ℕ
greatest [] = 0
greatest (n ∷ ns) = max n (greatest ns)

-- "the smallest missing number": where the first 0 stands; the length, if there is none
unfoldable pub smallest_missing : List ℕ → ℕ
smallest_missing [] = 0
smallest_missing (n ∷ ns) = if eqb n 0 then 0 else suc (smallest_missing ns)

-- the sum of the payloads' lengths
unfoldable pub total : List ℕ → ℕ
total [] = 0
total (n ∷ ns) = (n - 1) + total ns

-- how many numbers are held: how many are not 0
unfoldable pub held_count : List ℕ → ℕ
held_count [] = 0
held_count (n ∷ ns) = if eqb n 0 then held_count ns else suc (held_count ns)

-- the n bytes of d from index at on
unfoldable pub part : List ℕ → ℕ → ℕ → List ℕ
part d at n = take n (drop at d)

-- ---- what one pass over the held lengths finds, where the table has `count` numbers

pub record Surveyed (s : List ℕ) (count most held bytes above : ℕ) : Type 0 where
  pub most_is : most ≡ greatest (take count s)
  pub held_is : held ≡ held_count (take count s)
  pub bytes_is : bytes ≡ total (take count s)
  pub above_is : above ≡ greatest (drop count s)
