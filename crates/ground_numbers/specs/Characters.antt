-- What a reader has to believe of characters: the digits and the colon of ASCII.
use Rattle.std.specs.Prelude.{ℕ, Bool, ◌&&◌, leb}

-- '0' to '9'
abbrev pub is_digit : ℕ → Bool
is_digit c = leb 0x30 c && leb c 0x39

-- ':'
abbrev pub colon : ℕ
colon = 0x3A
