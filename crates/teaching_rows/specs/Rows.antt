-- What a reader has to believe of a teaching buffer's rows: how fed byte strings are kept back to back, and which strings some bytes keep.
use Rattle.std.specs.Prelude.{ℕ, zero, suc, ◌+◌, ◌^◌, ◌<◌, ◌≡◌, Bool, true, ◌&&◌, eqb, leb, length, take, drop, if◌then◌else◌}
use mathlib.Core.List.{List, [], ◌∷◌, ◌++◌, Memᴰ as In}
use Rattle.body_formats.specs.Format.{number_at, bytes_of}

-- ---- strings kept

-- "an eight-byte length before each"
abbrev pub length_bytes : ℕ
length_bytes = 8

-- the length, high byte first, and the string
unfoldable pub row : List ℕ → List ℕ
row s = bytes_of length_bytes (length s) ++ s

-- "keeps the fed byte strings back to back"
unfoldable pub rows : List (List ℕ) → List ℕ
rows [] = []
rows (s ∷ kept) = row s ++ rows kept

-- ---- the same read back

-- the length that begins some bytes
unfoldable pub length_in : List ℕ → ℕ
length_in bytes = number_at bytes 0 length_bytes

-- does a whole row begin them: the length, and as many bytes after it as it says?
unfoldable pub row_begins : List ℕ → Bool
row_begins bytes = leb (length_bytes + length_in bytes) (length bytes)

-- the strings of at most n rows, up to where no whole row begins
unfoldable pub strings_first : ℕ → List ℕ → List (List ℕ)
strings_first zero bytes = []
strings_first (suc n) bytes =
    if row_begins bytes then take (length_in bytes) (drop length_bytes bytes) ∷ strings_first n (drop (length_bytes + length_in bytes) bytes) else []

-- the strings that some bytes keep; they have no more rows than bytes
unfoldable pub strings_in : List ℕ → List (List ℕ)
strings_in bytes = strings_first (length bytes) bytes

-- are they a "whole row of length and string", and another, and nothing else?
unfoldable pub whole_rows : List ℕ → Bool
whole_rows bytes = eqb (length (rows (strings_in bytes))) (length bytes)

-- "what is kept is told by the number of bytes in use": are they whole rows? More than the buffer has are none.
unfoldable pub whole_in_use : List ℕ → ℕ → Bool
whole_in_use buffer used = leb used (length buffer) && whole_rows (take used buffer)

-- ---- the row that begins some bytes: its string, and the bytes after it

pub record FirstRow (bytes string after : List ℕ) : Type 0 where
  pub begins : row_begins bytes ≡ true
  pub string_is : string ≡ take (length_in bytes) (drop length_bytes bytes)
  pub after_is : after ≡ drop (length_bytes + length_in bytes) bytes

-- ---- strings that rows can keep: their lengths have eight bytes

unfoldable pub Short : List (List ℕ) → Type 0
Short kept = (s : List ℕ) → In s kept → length s < 256 ^ length_bytes
