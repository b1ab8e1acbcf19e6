-- The laws of the register as a number, over the width and the polynomial.
use mathlib.Core.Path.{◌≡◌, refl, sym, ap, ap₂, ◌∙◌, subst}
use mathlib.Core.Bool.{Bool, false}
use mathlib.Core.List.{List, [], ◌∷◌, ◌++◌, append_assoc}
use Prim.Native.Nat.{ℕ, ◌+◌, ◌*◌, ◌/◌, ◌%◌, ◌^◌, ◌<◌}
use native.Mathlib.Nat.{mod-eq_of_lt, mod-lt, zero-mod, add_comm, div-one, mul-mod_left, add-zero}
use lib.Bits.{bit_xor, xor_lt, xor_self, xor_zero_r}
use lib.ListN.{length, length-replicate, replicate}
use lib.Pow.{pow_pos}
use Rattle.crc_register.specs.Register.{bits_of, bytes_bits, value, plus, run, crc}
use Rattle.crc_register.proofs.Linear.{length_run, run_append, run_plus, run_zeros, plus_zeros, run_block}
use Rattle.crc_register.proofs.Bits.{length_bits, bits_xor, bits_append, bits_mod, bits_shl, bits_zero, value_bits, value_lt, bits_value}

long : (w p s : ℕ) (bs : List Bool) → length (run (bits_of w p) (bits_of w s) bs) ≡ w
long w p s bs = length_run (bits_of w p) (bits_of w s) bs (length_bits w s ∙ sym (length_bits w p)) ∙ length_bits w s

-- the register as bits
pub crc_bits : (w p s : ℕ) (bs : List Bool) → bits_of w (crc w p s bs) ≡ run (bits_of w p) (bits_of w s) bs
unfolding crc
crc_bits w p s bs =
    ap (λ (n : ℕ). bits_of n (value (run (bits_of w p) (bits_of w s) bs))) (sym (long w p s bs))
    ∙ bits_value (run (bits_of w p) (bits_of w s) bs)

pub crc_lt : (w p s : ℕ) (bs : List Bool) → crc w p s bs < 2 ^ w
unfolding crc
crc_lt w p s bs = subst (λ (n : ℕ). crc w p s bs < 2 ^ n) (long w p s bs) (value_lt (run (bits_of w p) (bits_of w s) bs))

-- no bits leave the register as it is
pub crc_none : (w p s : ℕ) → s < 2 ^ w → crc w p s [] ≡ s
unfolding crc run
crc_none w p s h = value_bits w s ∙ mod-eq_of_lt h

-- ---- two strings, one after the other

pub crc_append : (w p s : ℕ) (xs ys : List Bool) → crc w p s (xs ++ ys) ≡ crc w p (crc w p s xs) ys
unfolding crc
crc_append w p s xs ys =
    ap value (run_append (bits_of w p) (bits_of w s) xs ys ∙ ap (λ (r : List Bool). run (bits_of w p) r ys) (sym (crc_bits w p s xs)))

pub bytes_append : (xs ys : List ℕ) → bytes_bits (xs ++ ys) ≡ bytes_bits xs ++ bytes_bits ys
unfolding bytes_bits
bytes_append [] ys = refl
bytes_append (x ∷ xs) ys = ap (λ (l : List Bool). bits_of 8 x ++ l) (bytes_append xs ys) ∙ sym (append_assoc (bits_of 8 x) (bytes_bits xs) (bytes_bits ys))

pub crc_bytes_append : (w p s : ℕ) (xs ys : List ℕ) → crc w p s (bytes_bits (xs ++ ys)) ≡ crc w p (crc w p s (bytes_bits xs)) (bytes_bits ys)
crc_bytes_append w p s xs ys = ap (crc w p s) (bytes_append xs ys) ∙ crc_append w p s (bytes_bits xs) (bytes_bits ys)

-- ---- the check is linear

pub crc_plus : (w p a b : ℕ) (xs ys : List Bool) → length xs ≡ length ys → crc w p (bit_xor a b) (plus xs ys) ≡ bit_xor (crc w p a xs) (crc w p b ys)
unfolding crc
crc_plus w p a b xs ys e =
    ap value
    (ap (λ (r : List Bool). run (bits_of w p) r (plus xs ys)) (bits_xor w a b)
    ∙ run_plus (bits_of w p) (bits_of w a) (bits_of w b) xs ys (length_bits w a ∙ sym (length_bits w p)) (length_bits w b ∙ sym (length_bits w p)) e
    ∙ ap₂ plus (sym (crc_bits w p a xs)) (sym (crc_bits w p b ys))
    ∙ sym (bits_xor w (crc w p a xs) (crc w p b ys)))
    ∙ value_bits w (bit_xor (crc w p a xs) (crc w p b ys))
    ∙ mod-eq_of_lt (xor_lt w (crc w p a xs) (crc w p b ys) (crc_lt w p a xs) (crc_lt w p b ys))

-- the first string with zeros after it, and the second from zero
pub crc_apart : (w p s : ℕ) (xs ys : List Bool) → crc w p s (xs ++ ys) ≡ bit_xor (crc w p s (xs ++ replicate (length ys) false)) (crc w p 0 ys)
crc_apart w p s xs ys =
    let r : ℕ = crc w p s xs in
    let n : ℕ = length ys in
    crc_append w p s xs ys
    ∙ ap₂ (crc w p) (sym (xor_zero_r r)) (sym (plus_zeros n ys refl))
    ∙ crc_plus w p r 0 (replicate n false) ys (length-replicate n false)
    ∙ ap (λ (x : ℕ). bit_xor x (crc w p 0 ys)) (sym (crc_append w p s xs (replicate n false)))

-- n bits in: the register's n high bits go in with them, from zero, and the low ones move up
pub crc_block : (n k p s b : ℕ) → crc (n + k) p s (bits_of n b) ≡ bit_xor (crc (n + k) p 0 (bits_of n (bit_xor (s / 2 ^ k) b))) (s * 2 ^ n % 2 ^ (n + k))
unfolding crc
crc_block n k p s b =
    ap value
    (ap (λ (r : List Bool). run P r (bits_of n b)) (bits_append n k s)
    ∙ run_block P (bits_of n (s / 2 ^ k)) (bits_of k s) (bits_of n b) (length_bits n (s / 2 ^ k) ∙ sym (length_bits n b)) (simp length_bits)
    ∙ ap₂ plus high low ∙ sym (bits_xor (n + k) (crc (n + k) p 0 x) (s * 2 ^ n % 2 ^ (n + k))))
    ∙ value_bits (n + k) (bit_xor (crc (n + k) p 0 x) (s * 2 ^ n % 2 ^ (n + k)))
    ∙ mod-eq_of_lt (xor_lt (n + k) (crc (n + k) p 0 x) (s * 2 ^ n % 2 ^ (n + k)) (crc_lt (n + k) p 0 x) (mod-lt (s * 2 ^ n) (pow_pos (n + k))))
  where
    P : List Bool
    P = bits_of (n + k) p

    x : List Bool
    x = bits_of n (bit_xor (s / 2 ^ k) b)

    high : run P (replicate (length P) false) (plus (bits_of n (s / 2 ^ k)) (bits_of n b)) ≡ bits_of (n + k) (crc (n + k) p 0 x)
    high =
        ap₂ (run P) (ap (λ (m : ℕ). replicate m false) (length_bits (n + k) p) ∙ sym (bits_zero (n + k))) (sym (bits_xor n (s / 2 ^ k) b))
        ∙ sym (crc_bits (n + k) p 0 x)

    low : bits_of k s ++ replicate (length (bits_of n b)) false ≡ bits_of (n + k) (s * 2 ^ n % 2 ^ (n + k))
    low =
        ap (λ (l : ℕ). bits_of k s ++ replicate l false) (length_bits n b) ∙ sym (bits_shl k n s)
        ∙ ap (λ (m : ℕ). bits_of m (s * 2 ^ n)) (add_comm k n) ∙ sym (bits_mod (n + k) (s * 2 ^ n))

-- as many bits as the register has: all of it goes in with them
pub crc_whole : (w p s b : ℕ) → crc w p s (bits_of w b) ≡ crc w p 0 (bits_of w (bit_xor s b))
crc_whole w p s b =
    subst (λ (m : ℕ). crc m p s (bits_of w b) ≡ crc m p 0 (bits_of w (bit_xor s b))) (add-zero w)
    (crc_block w 0 p s b
    ∙ ap₂ (λ (x y : ℕ). bit_xor (crc (w + 0) p 0 (bits_of w (bit_xor x b))) y) (div-one s) (ap (λ (m : ℕ). s * 2 ^ w % 2 ^ m) (add-zero w) ∙ mul-mod_left s (2 ^ w))
    ∙ xor_zero_r (crc (w + 0) p 0 (bits_of w (bit_xor s b))))

-- ---- a register's own bits after its string

-- zeros leave the register zero
crc_zeros : (w p : ℕ) → crc w p 0 (bits_of w 0) ≡ 0
unfolding crc
crc_zeros w p =
    ap value (ap (λ (r : List Bool). run (bits_of w p) r r) empty ∙ run_zeros (bits_of w p) ∙ sym empty) ∙ value_bits w 0 ∙ zero-mod (2 ^ w)
  where
    empty : bits_of w 0 ≡ replicate (length (bits_of w p)) false
    empty = bits_zero w ∙ ap (λ (n : ℕ). replicate n false) (sym (length_bits w p))

-- a register's own bits leave it zero
pub crc_own : (w p s : ℕ) → crc w p s (bits_of w s) ≡ 0
crc_own w p s = crc_whole w p s s ∙ ap (λ (x : ℕ). crc w p 0 (bits_of w x)) (xor_self s) ∙ crc_zeros w p
