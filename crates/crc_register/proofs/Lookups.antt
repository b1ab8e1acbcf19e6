-- Tables at work: the check, from zero, of the bits of a number is a sum of table entries, one for each chunk of n bits.
use mathlib.Core.Path.{◌≡◌, sym, ap, ap₂, ◌∙◌}
use mathlib.Core.Bool.{Bool, false}
use mathlib.Core.List.{List, ◌++◌, append_assoc, append-nil}
use Prim.Native.Nat.{ℕ, zero, suc, ◌+◌, ◌*◌, ◌/◌, ◌%◌, ◌^◌}
use native.Mathlib.Omega.{arith}
use lib.Bits.{bit_xor}
use lib.ListN.{length, length-append, length-replicate, replicate}
use Rattle.crc_register.specs.Register.{bits_of, crc, table_entry}
use Rattle.crc_register.proofs.Bits.{length_bits, bits_append}
use Rattle.crc_register.proofs.Laws.{crc_apart, crc_block}

-- the entries at the chunks c, .. , 1, 0 of x, in the tables from j on
unfoldable pub lookups : (n w p j c x : ℕ) → ℕ
lookups n w p j zero x = table_entry n w p j x
lookups n w p j (suc c) x = bit_xor (table_entry n w p (j + suc c) (x / 2 ^ (n * suc c))) (lookups n w p j c x)

-- they make the check of the chunks and of n * j zeros
pub crc_lookups : (n w p j c x : ℕ) → lookups n w p j c x ≡ crc w p 0 (bits_of (n * suc c) x ++ replicate (n * j) false)
unfolding lookups table_entry
crc_lookups n w p j zero x =
    let e : n ≡ n * 1 = omega arith in
    ap (λ (m : ℕ). crc w p 0 (bits_of m x ++ replicate (n * j) false)) e
crc_lookups n w p j (suc c) x =
    let high : List Bool = bits_of n (x / 2 ^ (n * suc c)) in
    let low : List Bool = bits_of (n * suc c) x in
    let rest : List Bool = low ++ replicate (n * j) false in
    let e : n + n * suc c ≡ n * suc (suc c) = omega arith in
    let l : n * (j + suc c) ≡ length rest = simp (length-append, length-replicate, length_bits) (omega arith) in
    ap₂ bit_xor (ap (λ (m : ℕ). crc w p 0 (high ++ replicate m false)) l) (crc_lookups n w p j c x)
    ∙ sym (crc_apart w p 0 high rest)
    ∙ ap (crc w p 0) (sym (append_assoc high low (replicate (n * j) false)) ∙ ap (λ (b : List Bool). b ++ replicate (n * j) false) (sym (bits_append n (n * suc c) x) ∙ ap (λ (m : ℕ). bits_of m x) e))

-- with no zeros to follow
pub crc_chunks : (n w p c x : ℕ) → lookups n w p 0 c x ≡ crc w p 0 (bits_of (n * suc c) x)
crc_chunks n w p c x =
    let z : n * 0 ≡ 0 = omega arith in
    crc_lookups n w p 0 c x
    ∙ ap (crc w p 0) (ap (λ (m : ℕ). bits_of (n * suc c) x ++ replicate m false) z ∙ append-nil (bits_of (n * suc c) x))

-- fewer bits than the register has: the chunks of its high part and the bits, and the low part moved up
pub crc_chunks_block : (n k p c s b : ℕ)
    → bit_xor (lookups n (n * suc c + k) p 0 c (bit_xor (s / 2 ^ k) b)) (s * 2 ^ (n * suc c) % 2 ^ (n * suc c + k)) ≡ crc (n * suc c + k) p s (bits_of (n * suc c) b)
crc_chunks_block n k p c s b =
    let m : ℕ = n * suc c in
    ap (λ (y : ℕ). bit_xor y (s * 2 ^ m % 2 ^ (m + k))) (crc_chunks n (m + k) p c (bit_xor (s / 2 ^ k) b))
    ∙ sym (crc_block m k p s b)
