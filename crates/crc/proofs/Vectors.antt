-- 01, 'Values to hold': the checks of ASCII "123456789", by computation.
use mathlib.Core.Bool.{xor}
use mathlib.Core.List.{List, [], ◌∷◌}
use mathlib.Core.Path.{◌≡◌, refl}
use Prim.Native.Nat.{ℕ}
use Rattle.crc_register.specs.Register.{odd, bits_of, digit, value, bytes_bits, plus, fed, step, run, crc}
use Rattle.crc.specs.Crc.{crc16_of, crc32_of}

abbrev pub digits : List ℕ
digits = 0x31 ∷ 0x32 ∷ 0x33 ∷ 0x34 ∷ 0x35 ∷ 0x36 ∷ 0x37 ∷ 0x38 ∷ 0x39 ∷ []

pub vectors : (crc16_of digits ≡ 0x29B1) × (crc32_of digits ≡ 0x0376E6E7)
unfolding odd bits_of digit value bytes_bits plus fed step run crc crc16_of crc32_of xor
vectors = (refl, refl)
