-- What a reader has to believe of several fields in one number: they stand above each other, each in its own bits.
use Rattle.std.specs.Prelude.{ℕ, ◌+◌, ◌*◌, ◌%◌, ◌^◌, List, [], ◌∷◌}

-- how many bits the fields have together; a field is its width in bits and its value
unfoldable pub widths : List (ℕ × ℕ) → ℕ
widths [] = 0
widths (f ∷ fs) = f.0 + widths fs

-- the first field highest, each above the widths of those after it; of a value too large for its field, the low bits
unfoldable pub packed : List (ℕ × ℕ) → ℕ
packed [] = 0
packed (f ∷ fs) = f.1 % 2 ^ f.0 * 2 ^ widths fs + packed fs
