-- The check of a string, walked some bytes a turn: what a loop knows of its register, where it starts, its turns, and where it ends.
use mathlib.Core.Bool.{Bool, false}
use mathlib.Core.List.{List, [], ◌∷◌, ◌++◌, append-nil, append_assoc}
use mathlib.Core.Path.{◌≡◌, sym, ap, ap₂, ◌∙◌}
use Prim.Native.Nat.{ℕ, suc, ◌+◌, ◌-◌, ◌*◌, ◌/◌, ◌^◌, ◌<◌, ◌≤◌}
use native.Mathlib.Numerals.{add-one}
use native.Mathlib.Nat.{add-zero}
use native.Mathlib.Omega.{arith}
use lib.Bits.{bit_xor}
use lib.ListN.{length, get_or, take, drop, replicate, take-append-drop, length-drop}
use lib.Seq.{drop-cons, take-add, take_all, drop_at, get_or-take, get_or-drop, length-take-le}
use Rattle.crc_register.specs.Register.{bits_of, bytes_bits, crc}
use Rattle.crc_register.proofs.Bits.{length_bits, bits_above, bits_append}
use Rattle.crc_register.proofs.Laws.{crc_none, crc_append, crc_bytes_append, bytes_append}
use Rattle.crc_register.proofs.Lanes.{two_words}

-- r is the check of the first i bytes of xs
pub record Walk (w p s : ℕ) (xs : List ℕ) (i r : ℕ) : Type 0 where
  pub is : r ≡ crc w p s (bytes_bits (take i xs))

pub walk_start : {w p s : ℕ} {xs : List ℕ} → s < 2 ^ w → Walk w p s xs 0 s
unfolding bytes_bits
walk_start {w} {p} {s} h = record { is = sym (crc_none w p s h) }

pub walk_end : {w p s : ℕ} {xs : List ℕ} {i r : ℕ} → Walk w p s xs i r → length xs ≤ i → r ≡ crc w p s (bytes_bits xs)
walk_end {w} {p} {s} {xs} {i} v h = v.is ∙ ap (λ (l : List ℕ). crc w p s (bytes_bits l)) (take_all i xs h)

-- the rest, as a function over a part of the string leaves it
pub walk_rest : {w p s : ℕ} {xs : List ℕ} {i r r' : ℕ} → Walk w p s xs i r → r' ≡ crc w p r (bytes_bits (take (length xs - i) (drop i xs))) → r' ≡ crc w p s (bytes_bits xs)
walk_rest {w} {p} {s} {xs} {i} {r} v e =
    e ∙ ap₂ (λ (x : ℕ) (l : List ℕ). crc w p x (bytes_bits l)) v.is (take_all (length xs - i) (drop i xs) (rw length-drop (omega arith)))
    ∙ sym (crc_bytes_append w p s (take i xs) (drop i xs)) ∙ ap (λ (l : List ℕ). crc w p s (bytes_bits l)) (take-append-drop i xs)

-- ---- turns

-- k bytes
pub walk_more : {w p s : ℕ} {xs : List ℕ} {i r : ℕ} (k r' : ℕ) → Walk w p s xs i r → r' ≡ crc w p r (bytes_bits (take k (drop i xs))) → Walk w p s xs (i + k) r'
walk_more {w} {p} {s} {xs} {i} k r' v e =
    record {
      is =
          e ∙ ap (λ (x : ℕ). crc w p x (bytes_bits (take k (drop i xs)))) v.is
          ∙ sym (ap (λ (l : List ℕ). crc w p s (bytes_bits l)) (take-add i k xs) ∙ crc_bytes_append w p s (take i xs) (take k (drop i xs)));
    }

-- the byte at i, before the k that follow it
part_cons : (k i : ℕ) (xs : List ℕ) → i < length xs → take (suc k) (drop i xs) ≡ get_or xs i 0 ∷ take k (drop (i + 1) xs)
part_cons k i xs h = ap (take (suc k)) (drop-cons xs i 0 h) ∙ ap (λ (n : ℕ). get_or xs i 0 ∷ take k (drop n xs)) (sym (add-one i))

-- one byte
pub walk_byte : {w p s : ℕ} {xs : List ℕ} {i r : ℕ} (r' : ℕ) → Walk w p s xs i r → i < length xs → r' ≡ crc w p r (bits_of 8 (get_or xs i 0)) → Walk w p s xs (i + 1) r'
unfolding bytes_bits
walk_byte {w} {p} {s} {xs} {i} {r} r' v h e =
    walk_more 1 r' v (e ∙ ap (crc w p r) (sym (ap bytes_bits (part_cons 0 i xs h) ∙ append-nil (bits_of 8 (get_or xs i 0)))))

-- one byte as its two nibbles
pub walk_nibbles : {w p s : ℕ} {xs : List ℕ} {i r q : ℕ} (r' : ℕ) → Walk w p s xs i r → i < length xs
    → q ≡ crc w p r (bits_of 4 (get_or xs i 0 / 16)) → r' ≡ crc w p q (bits_of 4 (get_or xs i 0)) → Walk w p s xs (i + 1) r'
walk_nibbles {w} {p} {s} {xs} {i} {r} r' v h e e' =
    let b : ℕ = get_or xs i 0 in
    walk_byte r' v h
    (e' ∙ ap (λ (x : ℕ). crc w p x (bits_of 4 b)) e ∙ sym (ap (crc w p r) (bits_append 4 4 b) ∙ crc_append w p r (bits_of 4 (b / 16)) (bits_of 4 b)))

-- ---- without the first four bits

pub after_none : (w p s : ℕ) (xs : List ℕ) → s < 2 ^ w → length xs ≡ 0 → s ≡ crc w p s (drop 4 (bytes_bits xs))
unfolding bytes_bits
after_none w p s [] h e = sym (crc_none w p s h)
after_none w p s (x ∷ xs) h e = absurd (omega arith)

-- the low nibble of the first byte, and then the other bytes
pub after_four : (w p s : ℕ) (xs : List ℕ) (q r : ℕ) → 1 ≤ length xs → q ≡ crc w p s (bits_of 4 (get_or xs 0 0))
    → r ≡ crc w p q (bytes_bits (take (length xs - 1) (drop 1 xs))) → r ≡ crc w p s (drop 4 (bytes_bits xs))
unfolding bytes_bits
after_four w p s [] q r h e e' = absurd (omega arith)
after_four w p s (x ∷ xs) q r h e e' =
    let low : List Bool = bits_of 4 x in
    let rest : List Bool = bytes_bits xs in
    let all : take (length (x ∷ xs) - 1) xs ≡ xs = take_all (length (x ∷ xs) - 1) xs (omega arith) in
    e' ∙ ap₂ (λ (y : ℕ) (l : List ℕ). crc w p y (bytes_bits l)) e all ∙ sym (crc_append w p s low rest)
    ∙ ap (crc w p s) (sym (ap (λ (l : List Bool). drop 4 (l ++ rest)) (bits_append 4 4 x)
    ∙ ap (drop 4) (append_assoc (bits_of 4 (x / 16)) low rest) ∙ drop_at (bits_of 4 (x / 16)) (low ++ rest) 4 (length_bits 4 (x / 16))))

-- ---- bytes as one number

pub four_bytes : (xs : List ℕ) → length xs ≡ 4 → xs ≡ get_or xs 0 0 ∷ get_or xs 1 0 ∷ get_or xs 2 0 ∷ get_or xs 3 0 ∷ []
four_bytes xs h =
    sym (take_all 4 xs (omega arith)) ∙ part_cons 3 0 xs (omega arith)
    ∙ ap (λ (l : List ℕ). get_or xs 0 0 ∷ l) (part_cons 2 1 xs (omega arith)
    ∙ ap (λ (l : List ℕ). get_or xs 1 0 ∷ l) (part_cons 1 2 xs (omega arith)
    ∙ ap (λ (l : List ℕ). get_or xs 2 0 ∷ l) (part_cons 0 3 xs (omega arith))))

pub bits_pair : (a b : ℕ) → b < 256 → bits_of 16 (a * 256 + b) ≡ bytes_bits (a ∷ b ∷ [])
unfolding bytes_bits
bits_pair a b h = bits_above 8 8 a b h ∙ ap (λ (l : List Bool). bits_of 8 a ++ l) (sym (append-nil (bits_of 8 b)))

pub bits_joined : (a b c d : ℕ) → b < 256 → c < 256 → d < 256 → bits_of 32 (a * 16777216 + (b * 65536 + (c * 256 + d))) ≡ bytes_bits (a ∷ b ∷ c ∷ d ∷ [])
unfolding bytes_bits
bits_joined a b c d hb hc hd =
    bits_above 8 24 a (b * 65536 + (c * 256 + d)) (omega arith)
    ∙ ap (λ (l : List Bool). bits_of 8 a ++ l) (bits_above 8 16 b (c * 256 + d) (omega arith)
    ∙ ap (λ (l : List Bool). bits_of 8 b ++ l) (bits_above 8 8 c d hd
    ∙ ap (λ (l : List Bool). bits_of 8 c ++ l) (sym (append-nil (bits_of 8 d)))))

-- ---- four bytes as two numbers of 16 bits

four_at : (xs : List ℕ) (i : ℕ) → i + 4 ≤ length xs → take 4 (drop i xs) ≡ get_or xs i 0 ∷ get_or xs (i + 1) 0 ∷ get_or xs (i + 2) 0 ∷ get_or xs (i + 3) 0 ∷ []
four_at xs i h =
    let l : length (take 4 (drop i xs)) ≡ 4 = length-take-le 4 (drop i xs) (rw length-drop (omega arith)) in
    four_bytes (take 4 (drop i xs)) l ∙ rw (there 0 (omega arith), there 1 (omega arith), there 2 (omega arith), there 3 (omega arith), add-zero)
  where
    there : (k : ℕ) → k < 4 → get_or (take 4 (drop i xs)) k 0 ≡ get_or xs (i + k) 0
    there k m = rw (get_or-take, get_or-drop)

-- a turn: a is what the first two bytes and the register come to before the other two, and b what these come to
pub walk_four : {p s : ℕ} {xs : List ℕ} {i r : ℕ} (d e a b : ℕ) → Walk 16 p s xs i r → i + 4 ≤ length xs
    → bits_of 16 d ≡ bytes_bits (get_or xs i 0 ∷ get_or xs (i + 1) 0 ∷ []) → bits_of 16 e ≡ bytes_bits (get_or xs (i + 2) 0 ∷ get_or xs (i + 3) 0 ∷ [])
    → a ≡ crc 16 p 0 (bits_of 16 (bit_xor r d) ++ replicate 16 false) → b ≡ crc 16 p 0 (bits_of 16 e)
    → Walk 16 p s xs (i + 4) (bit_xor b a)
walk_four {p} {s} {xs} {i} {r} d e a b v h hd he ea eb =
    let first : List ℕ = get_or xs i 0 ∷ get_or xs (i + 1) 0 ∷ [] in
    let second : List ℕ = get_or xs (i + 2) 0 ∷ get_or xs (i + 3) 0 ∷ [] in
    walk_more 4 (bit_xor b a) v
    (two_words 16 p r d e 0 a b ea (eb ∙ ap (crc 16 p 0) (sym (append-nil (bits_of 16 e))))
    ∙ ap (crc 16 p r) (append-nil (bits_of 16 d ++ bits_of 16 e) ∙ ap₂ ◌++◌ hd he ∙ sym (bytes_append first second) ∙ ap bytes_bits (sym (four_at xs i h))))
