-- What a reader has to believe of CRC_32 and CRC-16: the register of each, over the bits of a string of bytes, and CRC-16's over any bits.
use Rattle.std.specs.Prelude.{Bool, List, [], ◌∷◌, ℕ, zero, suc, ◌*◌, ◌/◌, ◌%◌, ◌^◌, ◌<◌, get_or, set, drop}
use Rattle.std.specs.Int.Bits.{bit_xor}
use Rattle.crc_register.specs.Register.{bytes_bits, crc}
-- callers write a bit as a number too
unfoldable pub use Rattle.crc_register.specs.Register.{digit}

-- ---- strings of bytes

-- the k bytes of n
unfoldable pub big_endian : ℕ → ℕ → List ℕ
big_endian zero n = []
big_endian (suc k) n = n / 2 ^ (8 * k) % 256 ∷ big_endian k n

-- every number of the list is a byte
pub record AreBytes (s : List ℕ) : Type 0 where
  pub byte : (i : ℕ) → get_or s i 0 < 256

-- s with the bit of value 2 ^ k changed in byte i
unfoldable pub bit_changed : List ℕ → ℕ → ℕ → List ℕ
bit_changed s i k = set s i (bit_xor (get_or s i 0) (2 ^ k))

-- ---- the two checksums

-- 01, 'A section on the wire': "CRC_32: polynomial 0x04C11DB7, start all ones, high bit first, no final change"
unfoldable pub crc32_of : List ℕ → ℕ
crc32_of s = crc 32 0x04C11DB7 0xFFFFFFFF (bytes_bits s)

-- 01, 'Content': "CRC-16: polynomial 0x1021, start 0xFFFF, high bit first, no final change"
unfoldable pub crc16_of : List ℕ → ℕ
crc16_of s = crc 16 0x1021 0xFFFF (bytes_bits s)

-- M-103: "Write the definition over a string of bits", "from the same start value"
unfoldable pub crc16_bits : List Bool → ℕ
crc16_bits bits = crc 16 0x1021 0xFFFF bits

-- of the bits of a string of bytes without the first four
unfoldable pub crc16_after_four : List ℕ → ℕ
crc16_after_four s = crc16_bits (drop 4 (bytes_bits s))
