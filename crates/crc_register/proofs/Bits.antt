-- Numbers and their bits, high bit first: what `bits_of` and `value` make of sums without carry, shifts and remainders.
use mathlib.Core.Path.{◌≡◌, refl, sym, ap, ap₂, ◌∙◌}
use mathlib.Core.Bool.{Bool, true, false, xor}
use mathlib.Core.List.{List, [], ◌∷◌, ◌++◌}
use Prim.Native.Nat.{ℕ, zero, suc, ◌+◌, ◌*◌, ◌/◌, ◌%◌, ◌^◌, ◌<◌}
use native.Mathlib.Numerals.{add-one, one-add}
use native.Mathlib.Nat.{zero-div, mod-one, suc-add, zero-add, add_comm, mul-add-mod_self_right, mod-lt, mul-mod_left, zero-lt-suc, pow-suc}
use native.Mathlib.Omega.{arith}
use lib.Dec.{eqb, lit<}
use lib.ListN.{length, replicate}
use lib.Bits.{bit_xor, differ, xor_step, xor_shr}
use lib.Pow.{shl-shr, shr-shr, high, low, mod-pow-add, field, mod-mod-pow}
use lib.Arith.{digits_lt}
use Rattle.crc_register.specs.Register.{odd, bits_of, digit, value, plus}

pub length_bits : (k n : ℕ) → length (bits_of k n) ≡ k
unfolding bits_of
length_bits zero n = refl
length_bits (suc k) n = ap suc (length_bits k n)

-- ---- the lowest bit

differ_odd : (x y : ℕ) → x < 2 → y < 2 → eqb (differ x y % 2) 1 ≡ xor (eqb x 1) (eqb y 1)
unfolding xor
differ_odd zero zero hx hy = refl
differ_odd zero (suc zero) hx hy = refl
differ_odd zero (suc (suc y)) hx hy = absurd (omega arith)
differ_odd (suc zero) zero hx hy = refl
differ_odd (suc zero) (suc zero) hx hy = refl
differ_odd (suc zero) (suc (suc y)) hx hy = absurd (omega arith)
differ_odd (suc (suc x)) y hx hy = absurd (omega arith)

odd_xor : (a b : ℕ) → odd (bit_xor a b) ≡ xor (odd a) (odd b)
unfolding odd
odd_xor a b =
    ap (λ (x : ℕ). eqb (x % 2) 1) (xor_step a b)
    ∙ ap (λ (x : ℕ). eqb x 1) (mul-add-mod_self_right (bit_xor (a / 2) (b / 2)) 2 (differ (a % 2) (b % 2)))
    ∙ differ_odd (a % 2) (b % 2) (mod-lt a (zero-lt-suc 1)) (mod-lt b (zero-lt-suc 1))

digit_odd : (n : ℕ) → digit (odd n) ≡ n % 2
unfolding odd digit
digit_odd n = go (n % 2) (mod-lt n (zero-lt-suc 1))
  where
    go : (x : ℕ) → x < 2 → digit (eqb x 1) ≡ x
    go zero h = refl
    go (suc zero) h = refl
    go (suc (suc x)) h = absurd (omega arith)

odd_digit : (b : Bool) → odd (digit b) ≡ b
unfolding odd digit
odd_digit true = refl
odd_digit false = refl

odd_mod : (j n : ℕ) → odd (n % 2 ^ suc j) ≡ odd n
unfolding odd
odd_mod j n = ap (λ (x : ℕ). eqb x 1) (ap (λ (x : ℕ). n % 2 ^ x % 2) (sym (add-one j)) ∙ mod-mod-pow n j 1)

-- ---- strings of bits

pub bits_xor : (k a b : ℕ) → bits_of k (bit_xor a b) ≡ plus (bits_of k a) (bits_of k b)
unfolding bits_of plus
bits_xor zero a b = refl
bits_xor (suc k) a b = ap₂ ◌∷◌ (ap odd (xor_shr a b k) ∙ odd_xor (a / 2 ^ k) (b / 2 ^ k)) (bits_xor k a b)

pub bits_append : (j k n : ℕ) → bits_of (j + k) n ≡ bits_of j (n / 2 ^ k) ++ bits_of k n
unfolding bits_of
bits_append zero k n = ap (λ (m : ℕ). bits_of m n) (zero-add k)
bits_append (suc j) k n =
    ap (λ (m : ℕ). bits_of m n) (suc-add j k)
    ∙ ap₂ ◌∷◌ (ap odd (ap (λ (m : ℕ). n / 2 ^ m) (add_comm j k) ∙ sym (shr-shr n k j))) (bits_append j k n)

bits_mod_more : (k j n : ℕ) → bits_of k (n % 2 ^ (j + k)) ≡ bits_of k n
unfolding bits_of
bits_mod_more zero j n = refl
bits_mod_more (suc k) j n =
    let e : j + suc k ≡ suc j + k = omega arith in
    ap₂ ◌∷◌
    (ap odd (ap (λ (m : ℕ). n % 2 ^ m / 2 ^ k) e ∙ field n (suc j) k) ∙ odd_mod j (n / 2 ^ k))
    (ap (λ (m : ℕ). bits_of k (n % 2 ^ m)) e ∙ bits_mod_more k (suc j) n)

pub bits_mod : (k n : ℕ) → bits_of k (n % 2 ^ k) ≡ bits_of k n
bits_mod k n = ap (λ (m : ℕ). bits_of k (n % 2 ^ m)) (sym (zero-add k)) ∙ bits_mod_more k 0 n

pub bits_zero : (k : ℕ) → bits_of k 0 ≡ replicate k false
unfolding bits_of digit
bits_zero zero = refl
bits_zero (suc k) = ap₂ ◌∷◌ (ap odd (zero-div (2 ^ k)) ∙ odd_digit false) (bits_zero k)

-- the low bits of a number shifted up are zeros
bits_shifted : (n r : ℕ) → bits_of n (r * 2 ^ n) ≡ replicate n false
bits_shifted n r = sym (bits_mod n (r * 2 ^ n)) ∙ ap (bits_of n) (mul-mod_left r (2 ^ n)) ∙ bits_zero n

pub bits_shl : (k n r : ℕ) → bits_of (k + n) (r * 2 ^ n) ≡ bits_of k r ++ replicate n false
bits_shl k n r = bits_append k n (r * 2 ^ n) ∙ ap₂ ◌++◌ (ap (bits_of k) (shl-shr r n)) (bits_shifted n r)

-- a number put above k bits
pub bits_above : (j k a n : ℕ) → n < 2 ^ k → bits_of (j + k) (a * 2 ^ k + n) ≡ bits_of j a ++ bits_of k n
bits_above j k a n h =
    bits_append j k (a * 2 ^ k + n)
    ∙ ap₂ ◌++◌ (ap (bits_of j) (high a k h)) (sym (bits_mod k (a * 2 ^ k + n)) ∙ ap (bits_of k) (low a k h))

-- ---- values

pub value_bits : (k n : ℕ) → value (bits_of k n) ≡ n % 2 ^ k
unfolding bits_of value
value_bits zero n = sym (mod-one n)
value_bits (suc k) n =
    ap₂ (λ (x y : ℕ). x + y) (ap₂ (λ (x m : ℕ). x * 2 ^ m) (digit_odd (n / 2 ^ k)) (length_bits k n)) (value_bits k n)
    ∙ sym (ap (λ (m : ℕ). n % 2 ^ m) (sym (one-add k)) ∙ mod-pow-add n 1 k)

digit_lt : (b : Bool) → digit b < 2
unfolding digit
digit_lt true = lit< tt
digit_lt false = lit< tt

pub value_lt : (bs : List Bool) → value bs < 2 ^ length bs
unfolding value
value_lt [] = lit< tt
value_lt (b ∷ bs) = omega (arith, pow-suc 2 (length bs), digits_lt (digit_lt b) (value_lt bs))

pub bits_value : (bs : List Bool) → bits_of (length bs) (value bs) ≡ bs
unfolding bits_of value
bits_value [] = refl
bits_value (b ∷ bs) =
    ap₂ ◌∷◌ (ap odd (high (digit b) (length bs) (value_lt bs)) ∙ odd_digit b)
    (sym (bits_mod (length bs) (digit b * 2 ^ length bs + value bs)) ∙ ap (bits_of (length bs)) (low (digit b) (length bs) (value_lt bs)) ∙ bits_value bs)
