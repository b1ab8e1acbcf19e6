-- The bits of an identifier as it is sent: four reserved ones, and then the 140 that are checked.
use Prim.Native.Nat.{ℕ, zero, suc, ◌+◌, ◌*◌, ◌<◌}
use mathlib.Core.Path.{◌≡◌, refl, sym, ap, ◌∙◌}
use mathlib.Core.Bool.{Bool, true}
use mathlib.Core.List.{List, [], ◌∷◌, ◌++◌, append_assoc}
use native.Mathlib.Omega.{arith}
use lib.ListN.{length, drop, length-append}
use lib.Dec.{ltb}
use borrow.Author.Tests.{ltb-true}
use Rattle.ground_choices.proofs.Tests.{both}
use Rattle.crc_register.specs.Register.{odd, bits_of, bytes_bits}
use Rattle.crc_register.proofs.Bits.{length_bits, bits_above}
use Rattle.crc.specs.Crc.{crc16_of, crc16_bits, crc16_after_four}
use Rattle.crc.proofs.Laws.{crc16_whole}
use Rattle.crc.proofs.Burst.{crc16_four_ones}
use Rattle.body_formats.specs.Format.{paired, decimal}
use Rattle.body_formats.specs.Identifier.{identifier}
use Rattle.body_formats.proofs.Identifiers.{identifier_digits, identifier_print}
use Rattle.body_extension.specs.Extension.{identifier_bits, extension_of}

length_identifier_bits : (ds : List ℕ) → length (identifier_bits ds) ≡ 4 * length ds
unfolding identifier_bits
length_identifier_bits [] = refl
length_identifier_bits (d ∷ ds) = length-append (bits_of 4 d) (identifier_bits ds) ∙ omega (arith, length_bits 4 d, length_identifier_bits ds)

-- two digits in a byte
pair_bits : (a x : ℕ) (rest : List Bool) → ltb x 10 ≡ true → bits_of 8 (a * 16 + x) ++ rest ≡ bits_of 4 a ++ (bits_of 4 x ++ rest)
pair_bits a x rest d =
    let small : x < 16 = omega (arith, ltb-true x 10 d) in
    ap (λ (l : List Bool). l ++ rest) (bits_above 4 4 a x small) ∙ append_assoc (bits_of 4 a) (bits_of 4 x) rest

-- a half and then 2 h + 1 digits
paired_bits : (h a : ℕ) (ds : List ℕ) → length ds ≡ h + h + 1 → decimal ds ≡ true → bytes_bits (paired (a ∷ ds)) ≡ bits_of 4 a ++ identifier_bits ds
unfolding paired decimal bytes_bits identifier_bits
paired_bits h a [] n d = absurd (omega arith)
paired_bits zero a (x ∷ []) n d = pair_bits a x [] (both (ltb x 10) true d).0
paired_bits zero a (x ∷ (y ∷ r)) n d = absurd (omega arith)
paired_bits (suc h) a (x ∷ []) n d = absurd (omega arith)
paired_bits (suc h) a (x ∷ (y ∷ r)) n d =
    let first = both (ltb x 10) (decimal (y ∷ r)) d in
    let second = both (ltb y 10) (decimal r) first.1 in
    pair_bits a x (bytes_bits (paired (y ∷ r))) first.0
    ∙ ap (λ (l : List Bool). bits_of 4 a ++ (bits_of 4 x ++ l)) (paired_bits h y r (omega arith) second.1)

module _ (ds : List ℕ) (writable : identifier.writable ds ≡ true) where
  pub checked_bits : length (identifier_bits ds) ≡ 140
  checked_bits = length_identifier_bits ds ∙ omega (arith, (identifier_digits ds writable).0)

  pub four_ones : bytes_bits (identifier.print ds) ≡ true ∷ true ∷ true ∷ true ∷ identifier_bits ds
  unfolding bits_of odd
  four_ones =
      let right = identifier_digits ds writable in
      ap bytes_bits (identifier_print ds) ∙ paired_bits 17 15 ds right.0 right.1

  -- what is worked out of the 18 bytes
  pub checked : crc16_after_four (identifier.print ds) ≡ extension_of ds
  unfolding crc16_after_four extension_of
  checked = ap (λ (bits : List Bool). crc16_bits (drop 4 bits)) four_ones

  -- the CRC-16 of the 18 bytes is never the extension
  pub other_of_bytes : crc16_of (identifier.print ds) ≡ extension_of ds → ⊥
  unfolding extension_of
  other_of_bytes e = crc16_four_ones (identifier_bits ds) (ap crc16_bits (sym four_ones) ∙ crc16_whole (identifier.print ds) ∙ e)
