-- The laws of two lanes. A far turn leaves a block out of the register: what the block and q0 come to after n more zeros waits as the new
-- q1. A near turn brings both lanes together: it leaves the register of the whole string so far.
use mathlib.Core.Path.{◌≡◌, refl, sym, ap, ap₂, ◌∙◌}
use mathlib.Core.Bool.{Bool, false}
use mathlib.Core.List.{List, [], ◌++◌, append_assoc}
use Prim.Native.Nat.{ℕ, ◌+◌, ◌^◌, ◌<◌}
use native.Mathlib.Nat.{mod-eq_of_lt}
use lib.Bits.{bit_xor, xor_comm, xor_lt, xor_zero_r}
use lib.ListN.{length, length-append, length-replicate, replicate}
use lib.Pow.{pow_pos}
use Rattle.crc_register.specs.Register.{bits_of, value, crc, plus}
use Rattle.crc_register.specs.Lanes.{Lanes}
use Rattle.crc_register.proofs.Bits.{length_bits, bits_xor, value_bits}
use Rattle.crc_register.proofs.Linear.{plus_assoc, plus_zeros}
use Rattle.crc_register.proofs.Laws.{crc_append, crc_plus, crc_apart, crc_whole, crc_lt}

-- three registers added, in either order
add_assoc : (w a b c : ℕ) → a < 2 ^ w → b < 2 ^ w → c < 2 ^ w → bit_xor (bit_xor a b) c ≡ bit_xor a (bit_xor b c)
add_assoc w a b c ha hb hc =
    sym (whole (bit_xor (bit_xor a b) c) (xor_lt w (bit_xor a b) c (xor_lt w a b ha hb) hc))
    ∙ ap value
    (bits_xor w (bit_xor a b) c
    ∙ ap (λ l. plus l (bits_of w c)) (bits_xor w a b)
    ∙ plus_assoc (bits_of w a) (bits_of w b) (bits_of w c)
    ∙ sym (bits_xor w a (bit_xor b c) ∙ ap (plus (bits_of w a)) (bits_xor w b c)))
    ∙ whole (bit_xor a (bit_xor b c)) (xor_lt w a (bit_xor b c) ha (xor_lt w b c hb hc))
  where
    whole : (x : ℕ) → x < 2 ^ w → value (bits_of w x) ≡ x
    whole x h = value_bits w x ∙ mod-eq_of_lt h

-- what zeros make of two registers added is what they make of each, added
zeros_plus : (w p a b n : ℕ) → crc w p (bit_xor a b) (replicate n false) ≡ bit_xor (crc w p a (replicate n false)) (crc w p b (replicate n false))
zeros_plus w p a b n =
    ap (crc w p (bit_xor a b)) (sym (plus_zeros n (replicate n false) (length-replicate n false)))
    ∙ crc_plus w p a b (replicate n false) (replicate n false) refl

pub lanes_start : {w p s n : ℕ} → Lanes w p s n [] s 0
lanes_start {w} {p} {s} {n} = record { fits = pow_pos w; is = sym (xor_zero_r (crc w p s (replicate n false))) }

module _ {w p s n : ℕ} {xs : List Bool} {q0 q1 : ℕ} (v : Lanes w p s n xs q0 q1) (block : List Bool) (long : length block ≡ n) where
  -- a near turn: the register of all that is read
  pub lanes_near : crc w p s (xs ++ block) ≡ bit_xor q1 (crc w p q0 block)
  lanes_near =
      let z : ℕ = crc w p q0 (replicate n false) in
      let b : ℕ = crc w p 0 block in
      crc_apart w p s xs block
      ∙ ap (λ m. bit_xor (crc w p s (xs ++ replicate m false)) b) long
      ∙ ap (λ y. bit_xor y b) (v.is ∙ xor_comm z q1)
      ∙ add_assoc w q1 z b v.fits (crc_lt w p q0 (replicate n false)) (crc_lt w p 0 block)
      ∙ ap (bit_xor q1) (sym (crc_apart w p q0 [] block ∙ ap (λ m. bit_xor (crc w p q0 (replicate m false)) b) long))

  -- a far turn: the lanes change places, and the new one has the block, n bits later
  pub lanes_far : (new : ℕ) → new ≡ crc w p q0 (block ++ replicate n false) → Lanes w p s n (xs ++ block) q1 new
  lanes_far new e =
      record {
        fits = rw e (crc_lt w p q0 (block ++ replicate n false));
        is =
            crc_append w p s (xs ++ block) (replicate n false)
            ∙ ap (λ r. crc w p r (replicate n false)) lanes_near
            ∙ zeros_plus w p q1 (crc w p q0 block) n
            ∙ ap (bit_xor (crc w p q1 (replicate n false))) (sym (e ∙ crc_append w p q0 block (replicate n false)));
      }

-- ---- a block of two words of w bits, by two numbers: what each comes to from zero, the first before the second's bits, both before m zeros

pub two_words : (w p r d e m a b : ℕ)
    → a ≡ crc w p 0 (bits_of w (bit_xor r d) ++ replicate (w + m) false) → b ≡ crc w p 0 (bits_of w e ++ replicate m false)
    → bit_xor b a ≡ crc w p r ((bits_of w d ++ bits_of w e) ++ replicate m false)
two_words w p r d e m a b ea eb =
    let x : List Bool = bits_of w (bit_xor r d) in
    let y : List Bool = bits_of w e ++ replicate m false in
    let l : length y ≡ w + m = simp (length-append, length_bits, length-replicate) in
    xor_comm b a
    ∙ ap₂ bit_xor (ea ∙ ap (λ k. crc w p 0 (x ++ replicate k false)) (sym l)) eb
    ∙ sym (crc_apart w p 0 x y)
    ∙ crc_append w p 0 x y
    ∙ ap (λ q. crc w p q y) (sym (crc_whole w p r d))
    ∙ sym (crc_append w p r (bits_of w d) y)
    ∙ ap (crc w p r) (sym (append_assoc (bits_of w d) (bits_of w e) (replicate m false)))
