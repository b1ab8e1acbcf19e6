-- Tables as constant lists of lists: one law that shows all entries. antt computes each entry as the sum of those at the powers of two
-- that make its index, and compares it with the number in the source.
use mathlib.Core.Bool.{Bool, false}
use mathlib.Core.List.{List, [], ◌∷◌, ◌++◌}
use mathlib.Core.Path.{◌≡◌, refl, sym, ap, ap₂, ◌∙◌, subst}
use Prim.Native.Nat.{ℕ, zero, suc, ◌+◌, ◌-◌, ◌*◌, ◌/◌, ◌%◌, ◌^◌, ◌≤◌, ◌<◌}
use native.Mathlib.Nat.{mod-lt, zero-add, add-zero, mul-one, one-mul, add-mul, mul_assoc, mul_comm, mul-mod_left, add-mod_left, pow-suc, zero-lt-suc, div-add-mod', add-suc, suc-add, not-suc-le-zero, le_of_suc-le-suc}
use native.Mathlib.Omega.{arith}
use lib.Bits.{bit_xor, xor_self, xor_shifted}
use lib.Dec.{T, leb}
use lib.ListN.{length, length-append, length-replicate, replicate, get_or}
use lib.Pow.{pow_pos, pow-lt}
use Rattle.crc_register.specs.Register.{bits_of, crc, table_entry}
use Rattle.crc_register.proofs.Bits.{bits_mod, bits_xor, length_bits}
use Rattle.crc_register.proofs.Laws.{crc_plus}
use Rattle.crc_register.proofs.Linear.{plus_append, plus_zeros}

-- ---- entries by the bits of a number

entry_low : (n w p j x : ℕ) → table_entry n w p j (x % 2 ^ n) ≡ table_entry n w p j x
unfolding table_entry
entry_low n w p j x = ap (λ (l : List Bool). crc w p 0 (l ++ replicate (n * j) false)) (bits_mod n x)

entry_xor : (n w p j x y : ℕ) → table_entry n w p j (bit_xor x y) ≡ bit_xor (table_entry n w p j x) (table_entry n w p j y)
unfolding table_entry
entry_xor n w p j x y =
    ap (crc w p 0)
    (ap₂ ◌++◌ (bits_xor n x y) (sym (plus_zeros (n * j) zeros (length-replicate (n * j) false)))
    ∙ sym (plus_append (bits_of n x) (bits_of n y) zeros zeros same))
    ∙ crc_plus w p 0 0 (bits_of n x ++ zeros) (bits_of n y ++ zeros) (simp (length-append, length_bits))
  where
    zeros : List Bool
    zeros = replicate (n * j) false

    same : length (bits_of n x) ≡ length (bits_of n y)
    same = length_bits n x ∙ sym (length_bits n y)

-- the entries at the m powers of two from 2 ^ i on
abbrev powers : (n w p j i m : ℕ) → List ℕ
powers n w p j i zero = []
powers n w p j i (suc m) = table_entry n w p j (2 ^ i) ∷ powers n w p j (suc i) m

-- b added to s where the bit is 1
abbrev with_bit : ℕ → ℕ → ℕ → ℕ
with_bit zero b s = s
with_bit (suc d) b s = bit_xor s b

-- the sum of those that the bits of y choose, the lowest bit first
abbrev chosen : List ℕ → ℕ → ℕ
chosen [] y = 0
chosen (b ∷ bs) y = with_bit (y % 2) b (chosen bs (y / 2))

shift_suc : (q i : ℕ) → q * 2 ^ suc i ≡ q * 2 * 2 ^ i
shift_suc q i = ap (λ (x : ℕ). q * x) (pow-suc 2 i ∙ mul_comm (2 ^ i) 2) ∙ sym (mul_assoc q 2 (2 ^ i))

-- one power for each of the n bits: what y has above them chooses nothing
chosen_entry : (n w p j i m y : ℕ) → i + m ≡ n → chosen (powers n w p j i m) y ≡ table_entry n w p j (y * 2 ^ i)
chosen_entry n w p j i zero y h =
    sym (entry_xor n w p j 0 0 ∙ xor_self (table_entry n w p j 0))
    ∙ ap (table_entry n w p j) (sym (ap (λ (m : ℕ). y * 2 ^ i % 2 ^ m) (sym h ∙ add-zero i) ∙ mul-mod_left y (2 ^ i))) ∙ entry_low n w p j (y * 2 ^ i)
chosen_entry n w p j i (suc m) y h =
    go (y % 2) (mod-lt y (zero-lt-suc 1)) (div-add-mod' y 2) (chosen_entry n w p j (suc i) m (y / 2) (omega arith))
  where
    q : ℕ
    q = y / 2

    go : (d : ℕ) → d < 2 → q * 2 + d ≡ y → chosen (powers n w p j (suc i) m) q ≡ table_entry n w p j (q * 2 ^ suc i)
        → with_bit d (table_entry n w p j (2 ^ i)) (chosen (powers n w p j (suc i) m) q) ≡ table_entry n w p j (y * 2 ^ i)
    go zero l e t = t ∙ ap (table_entry n w p j) (shift_suc q i ∙ ap (λ (v : ℕ). v * 2 ^ i) (sym (add-zero (q * 2)) ∙ e))
    go (suc zero) l e t =
        ap (λ (v : ℕ). bit_xor v (table_entry n w p j (2 ^ i))) t ∙ sym (entry_xor n w p j (q * 2 ^ suc i) (2 ^ i))
        ∙ ap (table_entry n w p j) (xor_shifted q (suc i) (2 ^ i) (pow-lt (omega arith)) ∙ ap₂ (λ (u v : ℕ). u + v) (shift_suc q i) (sym (one-mul (2 ^ i)))
        ∙ sym (add-mul (q * 2) 1 (2 ^ i)) ∙ ap (λ (v : ℕ). v * 2 ^ i) e)
    go (suc (suc d)) l e t = absurd (omega arith)

-- ---- tables

-- the sums that the numbers from i on choose, m of them
abbrev entries : (es : List ℕ) (i m : ℕ) → List ℕ
entries es i zero = []
entries es i (suc m) = chosen es i ∷ entries es (suc i) m

-- the tables from j on, m of them
abbrev pub tables : (n w p j m : ℕ) → List (List ℕ)
tables n w p j zero = []
tables n w p j (suc m) = entries (powers n w p j 0 n) 0 (2 ^ n) ∷ tables n w p (suc j) m

entry_of : (es : List ℕ) (i m k d : ℕ) → k < m → get_or (entries es i m) k d ≡ chosen es (i + k)
entry_of es i zero k d h = absurd (not-suc-le-zero h)
entry_of es i (suc m) zero d h = ap (chosen es) (rw (add-zero i) refl)
entry_of es i (suc m) (suc k) d h = entry_of es (suc i) m k d (le_of_suc-le-suc h) ∙ ap (chosen es) (suc-add i k ∙ rw (add-suc i k) refl)

table_of : (n w p j m k : ℕ) → k < m → get_or (tables n w p j m) k [] ≡ entries (powers n w p (j + k) 0 n) 0 (2 ^ n)
table_of n w p j zero k h = absurd (not-suc-le-zero h)
table_of n w p j (suc m) zero h = ap (λ (i : ℕ). entries (powers n w p i 0 n) 0 (2 ^ n)) (rw (add-zero j) refl)
table_of n w p j (suc m) (suc k) h = table_of n w p (suc j) m k (le_of_suc-le-suc h) ∙ ap (λ (i : ℕ). entries (powers n w p i 0 n) 0 (2 ^ n)) (suc-add j k ∙ rw (add-suc j k) refl)

-- what stands in the m tables from j on at the low n bits of a number
pub looked_up : (n w p j m k x d : ℕ) (t : List (List ℕ)) → t ≡ tables n w p j m → k < m → get_or (get_or t k []) (x % 2 ^ n) d ≡ table_entry n w p (j + k) x
looked_up n w p j m k x d t e h =
    let l = mod-lt x (pow_pos n) in
    ap (λ (u : List (List ℕ)). get_or (get_or u k []) (x % 2 ^ n) d) e
    ∙ ap (λ (u : List ℕ). get_or u (x % 2 ^ n) d) (table_of n w p j m k h)
    ∙ entry_of (powers n w p (j + k) 0 n) 0 (2 ^ n) (x % 2 ^ n) d l
    ∙ chosen_entry n w p (j + k) 0 n (0 + x % 2 ^ n) (zero-add n)
    ∙ rw (zero-add (x % 2 ^ n), mul-one (x % 2 ^ n)) (entry_low n w p (j + k) x)

-- the same where they are the first m
pub looked_up_first : (n w p m k x d : ℕ) (t : List (List ℕ)) → t ≡ tables n w p 0 m → k < m → get_or (get_or t k []) (x % 2 ^ n) d ≡ table_entry n w p k x
looked_up_first n w p m k x d t e h = looked_up n w p 0 m k x d t e h ∙ ap (λ (i : ℕ). table_entry n w p i x) (zero-add k)
