-- A check's own bytes after its string, over the width and the polynomial; then what callers cite of CRC_32 and CRC-16.
use mathlib.Core.Path.{◌≡◌, refl, sym, ap, ap₂, ◌∙◌}
use mathlib.Core.List.{List, ◌++◌}
use Prim.Native.Nat.{ℕ, zero, suc, ◌+◌, ◌*◌, ◌/◌, ◌^◌}
use native.Mathlib.Omega.{arith}
use Rattle.crc_register.specs.Register.{bits_of, bytes_bits, crc}
use Rattle.crc_register.proofs.Bits.{bits_append, bits_mod}
use Rattle.crc_register.proofs.Laws.{crc_bytes_append, crc_own}
use Rattle.crc.specs.Crc.{big_endian, crc32_of, crc16_of, crc16_bits}

pub bits_of_bytes : (k n : ℕ) → bytes_bits (big_endian k n) ≡ bits_of (8 * k) n
unfolding bytes_bits big_endian bits_of
bits_of_bytes zero n = refl
bits_of_bytes (suc k) n =
    let e : 8 + 8 * k ≡ 8 * suc k = omega arith in
    ap₂ ◌++◌ (bits_mod 8 (n / 2 ^ (8 * k))) (bits_of_bytes k n) ∙ sym (bits_append 8 (8 * k) n) ∙ ap (λ (m : ℕ). bits_of m n) e

pub crc_closed : (k p s : ℕ) (xs : List ℕ) → crc (8 * k) p s (bytes_bits (xs ++ big_endian k (crc (8 * k) p s (bytes_bits xs)))) ≡ 0
crc_closed k p s xs =
    let r : ℕ = crc (8 * k) p s (bytes_bits xs) in
    crc_bytes_append (8 * k) p s xs (big_endian k r) ∙ ap (crc (8 * k) p r) (bits_of_bytes k r) ∙ crc_own (8 * k) p r

-- of whole bytes the CRC-16 of their bits is the CRC-16 of the bytes
pub crc16_whole : (s : List ℕ) → crc16_bits (bytes_bits s) ≡ crc16_of s
unfolding crc16_bits crc16_of
crc16_whole s = refl

pub crc32_closed : (s : List ℕ) → crc32_of (s ++ big_endian 4 (crc32_of s)) ≡ 0
unfolding crc32_of
crc32_closed s = crc_closed 4 _ _ s
