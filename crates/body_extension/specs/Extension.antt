-- What a reader has to believe of a message's extension, by which a box finds its content table: a checksum of its identifier's 140 bits.
use Rattle.std.specs.Prelude.{ℕ, Bool, List, [], ◌∷◌, ◌++◌, Result}
use Rattle.ground_refusal.specs.declared.Refusal.{Refusal}
use Rattle.crc_register.specs.Register.{bits_of}
use Rattle.crc.specs.Crc.{crc16_bits}
use Rattle.body_formats.specs.Reading.{found, and_then}
use Rattle.body_formats.specs.Identifier.{identifier}
use Rattle.body_formats.specs.Answers.{number_of}

-- M-103: "The identifier is 140 bits": four to each of its 35 digits, "high bit first"
unfoldable pub identifier_bits : List ℕ → List Bool
identifier_bits [] = []
identifier_bits (d ∷ ds) = bits_of 4 d ++ identifier_bits ds

-- 01 as M-103 corrects it: "CRC-16 of the message identifier is taken over its 140 bits alone, high bit first, from the same start value; the
-- four reserved bits are not part of it"
unfoldable pub extension_of : List ℕ → ℕ
extension_of ds = crc16_bits (identifier_bits ds)

-- that of the identifier at p, in the part that ends at l; refused as the identifier is
unfoldable pub extension_at : List ℕ → ℕ → ℕ → Result (ℕ × ℕ) Refusal
extension_at s l p = number_of (and_then (identifier.parse s l p) (λ ds q. found (extension_of ds) q))
