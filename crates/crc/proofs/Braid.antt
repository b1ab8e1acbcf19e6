-- Two lanes over a string of bytes: where the loops start, a turn of each, and where they end.
use mathlib.Core.Bool.{Bool, false}
use mathlib.Core.List.{List, ◌++◌, append_assoc}
use mathlib.Core.Path.{◌≡◌, sym, ap, ◌∙◌, subst}
use Prim.Native.Nat.{ℕ, ◌+◌, ◌-◌, ◌^◌, ◌<◌}
use native.Mathlib.Omega.{arith}
use native.Mathlib.Nat.{add_assoc}
use lib.Bits.{bit_xor, xor_comm}
use lib.ListN.{length, length-append, length-replicate, take, drop, replicate}
use lib.Seq.{take-add}
use Rattle.crc_register.specs.Register.{bits_of, bytes_bits, crc}
use Rattle.crc_register.specs.Lanes.{Lanes}
use Rattle.crc_register.proofs.Bits.{length_bits}
use Rattle.crc_register.proofs.Laws.{crc_append, crc_whole, bytes_append}
use Rattle.crc_register.proofs.Lanes.{lanes_start, lanes_near, lanes_far, two_words}
use Rattle.crc.specs.Lanes.{Read, apart, close, joined}
use Rattle.crc.proofs.Walk.{Walk, walk_start, walk_more}

-- the bits of the first i bytes
abbrev pub bits_to : List ℕ → ℕ → List Bool
bits_to s i = bytes_bits (take i s)

bits_more : (s : List ℕ) (i k : ℕ) → bits_to s (i + k) ≡ bits_to s i ++ bytes_bits (take k (drop i s))
bits_more s i k = ap bytes_bits (take-add i k s) ∙ bytes_append (take i s) (take k (drop i s))

-- a word of four bytes, as the number d, as a loop knows it
word_more : (s : List ℕ) (i d : ℕ) → bits_of 32 d ≡ bytes_bits (take (i + 4 - i) (drop i s)) → bits_to s i ++ bits_of 32 d ≡ bits_to s (i + 4)
word_more s i d h =
    let e : i + 4 - i ≡ 4 = omega arith in
    ap (λ x. bits_to s i ++ x) (h ∙ ap (λ n. bytes_bits (take n (drop i s))) e) ∙ sym (bits_more s i 4)

-- ---- two lanes, two words apart

-- what their loop knows, beside what is promised of it: it may not turn at all
pub record Apart (p s : ℕ) (xs : List ℕ) (i q0 q2 : ℕ) : Type 0 where
  pub lanes : Lanes 32 p s 64 (bits_to xs i) q0 q2

pub apart_start : {p s : ℕ} {xs : List ℕ} → Apart p s xs 0 s 0
unfolding bytes_bits
apart_start = record { lanes = lanes_start }

-- a turn: eight bytes, as the numbers d and e
pub far_turn : {p s : ℕ} {xs : List ℕ} {i q0 q2 : ℕ} → Apart p s xs i q0 q2 → (d e a b : ℕ)
    → bits_of 32 d ≡ bytes_bits (take (i + 4 - i) (drop i xs)) → bits_of 32 e ≡ bytes_bits (take (i + 8 - (i + 4)) (drop (i + 4) xs))
    → a ≡ crc 32 p 0 (bits_of 32 (bit_xor q0 d) ++ replicate 96 false) → b ≡ crc 32 p 0 (bits_of 32 e ++ replicate 64 false)
    → Apart p s xs (i + 8) q2 (bit_xor b a)
far_turn {p} {s} {xs} {i} {q0} {q2} v d e a b hd he ea eb =
    let second : i + 8 - (i + 4) ≡ i + 4 + 4 - (i + 4) = omega arith in
    let l : length (bits_of 32 d ++ bits_of 32 e) ≡ 64 = simp (length-append, length_bits) in
    let all : bits_to xs i ++ (bits_of 32 d ++ bits_of 32 e) ≡ bits_to xs (i + 8) =
    sym (append_assoc (bits_to xs i) (bits_of 32 d) (bits_of 32 e))
    ∙ ap (λ x. x ++ bits_of 32 e) (word_more xs i d hd)
    ∙ word_more xs (i + 4) e (he ∙ ap (λ n. bytes_bits (take n (drop (i + 4) xs))) second)
    ∙ ap (bits_to xs) (add_assoc i 4 4) in
    record {
      lanes =
          subst (λ x. Lanes 32 p s 64 x q2 (bit_xor b a)) all
          (lanes_far v.lanes (bits_of 32 d ++ bits_of 32 e) l (bit_xor b a) (two_words 32 p q0 d e 64 a b ea eb));
    }

-- ---- they come together

pub read_start : {p s : ℕ} {xs : List ℕ} → s < 2 ^ 32 → Read p s xs 0 s 0 0
read_start {p} {s} {xs} h = joined (walk_start {xs = xs} h).is

-- a turn: four bytes, as the number d
pub near_turn : {p s : ℕ} {xs : List ℕ} {i q0 q1 q2 : ℕ} → Read p s xs i q0 q1 q2 → (d a : ℕ) → bits_of 32 d ≡ bytes_bits (take (i + 4 - i) (drop i xs))
    → a ≡ crc 32 p 0 (bits_of 32 (bit_xor q0 d)) → Read p s xs (i + 4) (bit_xor q1 a) q2 0
near_turn {p} {s} {xs} {i} {q0} {q1} {q2} (apart v h) d a hd ea =
    let more : crc 32 p s (bits_to xs (i + 4) ++ replicate 32 false) ≡ bit_xor (crc 32 p a (replicate 32 false)) q2 =
    ap (λ x. crc 32 p s (x ++ replicate 32 false)) (sym (word_more xs i d hd))
    ∙ ap (crc 32 p s) (append_assoc (bits_to xs i) (bits_of 32 d) (replicate 32 false))
    ∙ lanes_near v (bits_of 32 d ++ replicate 32 false) (simp (length-append, length_bits, length-replicate))
    ∙ ap (bit_xor q2)
    (crc_append 32 p q0 (bits_of 32 d) (replicate 32 false) ∙ ap (λ r. crc 32 p r (replicate 32 false)) (crc_whole 32 p q0 d ∙ sym ea))
    ∙ xor_comm q2 (crc 32 p a (replicate 32 false)) in
    close (record { fits = v.fits; is = more }) (omega arith)
near_turn {p} {s} {xs} {i} {q0} {q1} {q2} (close v h) d a hd ea =
    joined
    (ap (bit_xor q1) (ea ∙ sym (crc_whole 32 p q0 d)) ∙ sym (lanes_near v (bits_of 32 d) (length_bits 32 d)) ∙ ap (crc 32 p s) (word_more xs i d hd))
near_turn {p} {s} {xs} {i} {q0} {q1} {q2} (joined v) d a hd ea =
    let e : i + 4 - i ≡ 4 = omega arith in
    let w : Walk 32 p s xs i q0 = record { is = v } in
    joined (walk_more 4 a w (ea ∙ sym (crc_whole 32 p q0 d) ∙ ap (crc 32 p q0) (hd ∙ ap (λ n. bytes_bits (take n (drop i xs))) e))).is

-- fewer than four bytes are left: q0 is the register
pub read_end_lem : {p s : ℕ} {xs : List ℕ} {i q0 q1 q2 : ℕ} → Read p s xs i q0 q1 q2 → length xs < i + 4 → Walk 32 p s xs i q0
read_end_lem (apart v h) l = absurd (omega arith)
read_end_lem (close v h) l = absurd (omega arith)
read_end_lem (joined v) l = record { is = v }
