-- What is said of the runs of a capture: that they follow each other, that none is lost, that what they keep is good.
use Rattle.std.specs.Prelude.{ℕ, ◌+◌, ◌≤◌, ◌<◌, Bool, true, false, ◌&&◌, ◌||◌, List, [], ◌∷◌, ◌++◌, ◌≡◌, leb, ltb, length, take, drop, if◌then◌else◌}
use Rattle.crc.specs.Crc.{digit}
use Rattle.section_reader.specs.Section.{read_section}
use Rattle.salvage.specs.Reading.{is_good}
use Rattle.salvage.specs.Runs.{Run}

-- "The runs follow each other": none is empty, each begins where the one before ends, and the last ends at `end`
abbrev pub Follow : ℕ → List Run → ℕ → Type 0
Follow at [] end = at ≡ end
Follow at (r ∷ rs) end = (r.first ≡ at) × (0 < r.size) × Follow (at + r.size) rs end

-- "together they cover the capture once": how many of the runs hold the byte at a place
unfoldable pub holders : ℕ → List Run → ℕ
holders i [] = 0
holders i (r ∷ rs) = digit (leb r.first i && ltb i (r.first + r.size)) + holders i rs

-- "no two skipped runs touch": of two that follow each other one is kept
unfoldable pub apart : List Run → Bool
apart [] = true
apart (r ∷ []) = true
apart (r ∷ r' ∷ rs) = (r.is_kept || r'.is_kept) && apart (r' ∷ rs)

-- the bytes of a run
unfoldable pub bytes_of : List ℕ → Run → List ℕ
bytes_of capture r = take r.size (drop r.first capture)

-- those of the kept runs, one after the other
unfoldable pub kept_bytes : List ℕ → List Run → List ℕ
kept_bytes capture [] = []
kept_bytes capture (r ∷ rs) = (if r.is_kept then bytes_of capture r else []) ++ kept_bytes capture rs

-- each of the runs is so
abbrev pub Each : (Run → Type 0) → List Run → Type 0
Each P [] = Unit {0}
Each P (r ∷ rs) = P r × Each P rs

-- a kept run is one good section
abbrev pub KeepsGood : List ℕ → Run → Type 0
KeepsGood capture r = r.is_kept ≡ true → is_good (read_section (bytes_of capture r)) ≡ true

-- and at no byte of a skipped one does a good section begin, however many bytes from there on are looked at
abbrev pub SkipsNone : List ℕ → Run → Type 0
SkipsNone capture r =
    r.is_kept ≡ false → (i : ℕ) → r.first ≤ i → i < r.first + r.size → (n : ℕ) → is_good (read_section (take n (drop i capture))) ≡ false

-- ---- a capture made only of good sections

-- sections back to back
unfoldable pub joined : List (List ℕ) → List ℕ
joined [] = []
joined (s ∷ ss) = s ++ joined ss

abbrev pub AllGood : List (List ℕ) → Type 0
AllGood [] = Unit {0}
AllGood (s ∷ ss) = (is_good (read_section s) ≡ true) × AllGood ss

-- "one kept run per section", the first of them at a place
unfoldable pub kept_runs : ℕ → List (List ℕ) → List Run
kept_runs at [] = []
kept_runs at (s ∷ ss) = record { is_kept = true; first = at; size = length s } ∷ kept_runs (at + length s) ss
