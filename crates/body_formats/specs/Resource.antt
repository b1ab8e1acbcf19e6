-- What a reader has to believe of resources, which messages and commands list.
use Rattle.std.specs.Prelude.{ℕ, ◌+◌, List}
use Rattle.body_formats.specs.Format.{Format, count, digits, list_of}

-- "4 reserved + 23 digits": a byte of the reserved bits and one digit, and 11 bytes of two digits
abbrev pub resource_pairs : ℕ
resource_pairs = 11

abbrev pub resource_bytes : ℕ
resource_bytes = 1 + resource_pairs

abbrev pub resource : Format (List ℕ)
resource = digits resource_pairs

-- an 8-bit count, and so many
abbrev pub resources : Format (List (List ℕ))
resources = list_of (count 1) resource
