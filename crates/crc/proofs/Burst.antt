-- Two strings that differ within as many bits as the register has, and nowhere else, have different checks, where the polynomial has its
-- lowest term. So only a check's own bytes close its string, and no single changed bit goes unseen.
use mathlib.Core.Path.{◌≡◌, refl, sym, ap, ap₂, ◌∙◌}
use mathlib.Core.Bool.{Bool, true, false, xor, ◌&&◌, true≢false}
use mathlib.Core.List.{List, [], ◌∷◌, ◌++◌, append-nil}
use Prim.Native.Nat.{ℕ, zero, suc, ◌+◌, ◌-◌, ◌*◌, ◌/◌, ◌^◌, ◌<◌, ◌≤◌}
use native.Mathlib.Nat.{suc_inj, mod-eq_of_lt, div-one}
use native.Mathlib.Numerals.{add-one}
use native.Mathlib.Omega.{arith}
use lib.Bits.{bit_xor}
use lib.ListN.{length, replicate, length-append, length-replicate, replicate-append-replicate, get_or, take, drop}
use lib.Pow.{pow_pos, pow-lt}
use lib.Dec.{lit<}
use lib.Seq.{set_split, split_at, take_at, drop_at}
use Rattle.crc_register.specs.Register.{odd, bits_of, bytes_bits, digit, value, plus, fed, step, run, crc}
use Rattle.crc.specs.Crc.{big_endian, bit_changed, crc32_of, crc16_bits, AreBytes}
use Rattle.crc_register.proofs.Linear.{xor_comm, xor_false, plus_comm, plus_assoc, plus_self, plus_zeros, plus_append, length_plus, length_step, length_run, run_append, run_plus, enter, zeros_snoc, fed_false, length_fed}
use Rattle.crc_register.proofs.Bits.{length_bits, bits_append, bits_xor, bits_zero, value_bits}
use Rattle.crc_register.proofs.Laws.{crc_bits, bytes_append}
use Rattle.crc.proofs.Laws.{crc_closed}

-- ---- a zero bit moves no two registers to one

snoc_inj : (xs ys : List Bool) (a b : Bool) → length xs ≡ length ys → xs ++ a ∷ [] ≡ ys ++ b ∷ [] → (xs ≡ ys) × (a ≡ b)
snoc_inj [] [] a b h e = (refl, cc)
snoc_inj [] (y ∷ ys) a b h e = absurd (omega arith)
snoc_inj (x ∷ xs) [] a b h e = absurd (omega arith)
snoc_inj (x ∷ xs) (y ∷ ys) a b h e =
    let t : xs ++ a ∷ [] ≡ ys ++ b ∷ [] = cc in
    let u : x ≡ y = cc in
    let r = snoc_inj xs ys a b (suc_inj h) t in
    (ap₂ ◌∷◌ u r.0, r.1)

fed_snoc : (z b : Bool) (q : List Bool) → fed z (q ++ b ∷ []) ≡ fed z q ++ (z && b) ∷ []
unfolding fed
fed_snoc z b [] = refl
fed_snoc z b (x ∷ q) = ap (λ (l : List Bool). (z && x) ∷ l) (fed_snoc z b q)

step_form : (q zs : List Bool) (z : Bool) → length zs ≡ length q
    → step (q ++ true ∷ []) (z ∷ zs) false ≡ plus (fed z q) zs ++ xor (z && true) false ∷ []
unfolding step plus
step_form q zs z h =
    ap (λ (x : List Bool). plus x (zs ++ false ∷ [])) (ap (λ (x : Bool). fed x (q ++ true ∷ [])) (xor_comm z false ∙ xor_false z) ∙ fed_snoc z true q)
    ∙ plus_append (fed z q) zs ((z && true) ∷ []) (false ∷ []) (length_fed z q ∙ sym h)

back_case : (q zs : List Bool) (z : Bool) → length zs ≡ length q
    → plus (fed z q) zs ≡ replicate (length q) false → xor (z && true) false ≡ false → z ∷ zs ≡ replicate (suc (length q)) false
unfolding xor
back_case q zs true h e t = absurd (true≢false t)
back_case q zs false h e t =
    ap (λ (l : List Bool). false ∷ l) (sym (plus_zeros (length q) zs h) ∙ ap (λ (l : List Bool). plus l zs) (sym (fed_false q)) ∙ e)

-- only the empty register is empty after a zero
step_back : (q r : List Bool) → length r ≡ suc (length q) → step (q ++ true ∷ []) r false ≡ replicate (suc (length q)) false → r ≡ replicate (suc (length q)) false
step_back q [] h e = absurd (omega arith)
step_back q (z ∷ zs) h e =
    let g : length zs ≡ length q = suc_inj h in
    let l : length (plus (fed z q) zs) ≡ length (replicate (length q) false) = length_plus (fed z q) zs (length_fed z q ∙ sym g) ∙ g ∙ sym (length-replicate (length q) false) in
    let w = snoc_inj (plus (fed z q) zs) (replicate (length q) false) (xor (z && true) false) false l (sym (step_form q zs z g) ∙ e ∙ sym (zeros_snoc (length q))) in
    back_case q zs z g w.0 w.1

run_back : (q r : List Bool) (n : ℕ) → length r ≡ suc (length q) → run (q ++ true ∷ []) r (replicate n false) ≡ replicate (suc (length q)) false → r ≡ replicate (suc (length q)) false
unfolding run
run_back q r zero h e = e
run_back q r (suc n) h e =
    let p : List Bool = q ++ true ∷ [] in
    let l : length r ≡ length p = h ∙ sym (length-append q (true ∷ []) ∙ add-one (length q)) in
    step_back q r h (run_back q (step p r false) n (length_step p r false l ∙ h) e)

-- ---- equal, by a sum that is zero

plus_back : (xs ys : List Bool) (n : ℕ) → length xs ≡ n → length ys ≡ n → plus xs ys ≡ replicate n false → xs ≡ ys
plus_back xs ys n h g e =
    sym (plus_comm xs (replicate n false) ∙ plus_zeros n xs h)
    ∙ ap (plus xs) (ap (λ (m : ℕ). replicate m false) (sym g) ∙ sym (plus_self ys))
    ∙ sym (plus_assoc xs ys ys) ∙ ap (λ (l : List Bool). plus l ys) e ∙ plus_zeros n ys g

-- what a sum does not change is zero
plus_same : (xs ys : List Bool) → length xs ≡ length ys → plus xs ys ≡ xs → ys ≡ replicate (length xs) false
plus_same xs ys h e =
    sym (plus_zeros (length xs) ys (sym h)) ∙ ap (λ (l : List Bool). plus l ys) (sym (plus_self xs))
    ∙ plus_assoc xs xs ys ∙ ap (plus xs) e ∙ plus_self xs

-- ---- a burst, for the polynomial of q and its lowest term

module _ (q : List Bool) where
  length_p : length (q ++ true ∷ []) ≡ suc (length q)
  length_p = length-append q (true ∷ []) ∙ add-one (length q)

  -- two registers that come to one were one
  run_inj : (u v c : List Bool) → length u ≡ suc (length q) → length v ≡ suc (length q)
      → run (q ++ true ∷ []) u c ≡ run (q ++ true ∷ []) v c → u ≡ v
  run_inj u v c hu hv e =
      let p : List Bool = q ++ true ∷ [] in
      let lu : length u ≡ length p = hu ∙ sym length_p in
      let lv : length v ≡ length p = hv ∙ sym length_p in
      plus_back u v (suc (length q)) hu hv
      (run_back q (plus u v) (length c) (length_plus u v (hu ∙ sym hv) ∙ hv)
      (ap (run p (plus u v)) (sym (plus_self c)) ∙ run_plus p u v c c lu lv refl
      ∙ ap (plus (run p u c)) (sym e) ∙ plus_self (run p u c) ∙ ap (λ (n : ℕ). replicate n false) (length_run p u c lu ∙ hu)))

  -- two short strings into one register
  run_short : (r xs ys : List Bool) → length r ≡ suc (length q) → length xs ≡ length ys → length xs ≤ suc (length q)
      → run (q ++ true ∷ []) r xs ≡ run (q ++ true ∷ []) r ys → xs ≡ ys
  run_short r xs ys hr h le e =
      let p : List Bool = q ++ true ∷ [] in
      let n : ℕ = length ys in
      let k : ℕ = suc (length q) - n in
      let d : List Bool = plus xs ys in
      let lr : length r ≡ length p = hr ∙ sym length_p in
      let ld : length d ≡ n = length_plus xs ys h in
      let whole : n + k ≡ suc (length q) = omega arith in
      let empty : replicate (length p) false ≡ plus r r = sym (plus_self r ∙ ap (λ (m : ℕ). replicate m false) lr) in
      let zero_sum : run p (replicate (length p) false) d ≡ replicate (suc (length q)) false =
      ap (λ (l : List Bool). run p l d) empty ∙ run_plus p r r xs ys lr lr h
      ∙ ap (plus (run p r xs)) (sym e) ∙ plus_self (run p r xs) ∙ ap (λ (m : ℕ). replicate m false) (length_run p r xs lr ∙ hr) in
      let high : run p (d ++ replicate k false) (replicate n false) ≡ replicate (suc (length q)) false =
      enter p d (replicate n false) k (ld ∙ sym (length-replicate n false)) (length_p ∙ sym whole ∙ ap (λ (m : ℕ). m + k) (sym (length-replicate n false)))
      ∙ ap (run p (replicate (length p) false)) (plus_comm d (replicate n false) ∙ plus_zeros n d ld) ∙ zero_sum in
      let all : d ++ replicate k false ≡ replicate n false ++ replicate k false =
      run_back q (d ++ replicate k false) n (simp (length-append, length-replicate) (omega arith)) high
      ∙ ap (λ (m : ℕ). replicate m false) (sym whole) ∙ sym (replicate-append-replicate n k false) in
      plus_back xs ys n h refl
      (sym (take_at d (replicate k false) n ld) ∙ ap (take n) all ∙ take_at (replicate n false) (replicate k false) n (length-replicate n false))

low_bit : (k p : ℕ) → odd p ≡ true → bits_of (suc k) p ≡ bits_of k (p / 2 ^ 1) ++ true ∷ []
unfolding bits_of
low_bit k p o = ap (λ (n : ℕ). bits_of n p) (sym (add-one k)) ∙ bits_append k 1 p ∙ ap (λ (x : List Bool). bits_of k (p / 2 ^ 1) ++ x) (one p o)
  where
    one : (p : ℕ) → odd p ≡ true → bits_of 1 p ≡ true ∷ []
    one p o = ap (λ (b : Bool). b ∷ []) (ap odd (div-one p) ∙ o)

bits_inj : (n x y : ℕ) → x < 2 ^ n → y < 2 ^ n → bits_of n x ≡ bits_of n y → x ≡ y
bits_inj n x y hx hy e = sym (value_bits n x ∙ mod-eq_of_lt hx) ∙ ap value e ∙ value_bits n y ∙ mod-eq_of_lt hy

-- registers that are not the same come to different checks, whatever bits follow
pub crc_start : (w p a b : ℕ) (c : List Bool) → 0 < w → odd p ≡ true → a < 2 ^ w → b < 2 ^ w → crc w p a c ≡ crc w p b c → a ≡ b
crc_start zero p a b c pos o ha hb e = absurd (omega arith)
crc_start (suc k) p a b c pos o ha hb e =
    bits_inj (suc k) a b ha hb (run_inj q (bits_of (suc k) a) (bits_of (suc k) b) c (wide a) (wide b) (as_run a ∙ ap (bits_of (suc k)) e ∙ sym (as_run b)))
  where
    q : List Bool
    q = bits_of k (p / 2 ^ 1)

    wide : (x : ℕ) → length (bits_of (suc k) x) ≡ suc (length q)
    wide x = length_bits (suc k) x ∙ sym (ap suc (length_bits k (p / 2 ^ 1)))

    as_run : (x : ℕ) → run (q ++ true ∷ []) (bits_of (suc k) x) c ≡ bits_of (suc k) (crc (suc k) p x c)
    as_run x = ap (λ (l : List Bool). run l (bits_of (suc k) x) c) (sym (low_bit k p o)) ∙ sym (crc_bits (suc k) p x c)

-- strings that differ within w bits have different checks
pub crc_burst : (w p s : ℕ) (a xs ys c : List Bool) → 0 < w → odd p ≡ true → length xs ≡ length ys → length xs ≤ w
    → crc w p s (a ++ (xs ++ c)) ≡ crc w p s (a ++ (ys ++ c)) → xs ≡ ys
crc_burst zero p s a xs ys c pos o h le e = absurd (omega arith)
crc_burst (suc k) p s a xs ys c pos o h le e =
    run_short q (run P r a) xs ys lr h (omega (arith, length_bits k (p / 2 ^ 1)))
    (run_inj q (run P (run P r a) xs) (run P (run P r a) ys) c (more xs) (more ys) (sym (twice xs) ∙ both ∙ twice ys))
  where
    q : List Bool
    q = bits_of k (p / 2 ^ 1)

    P : List Bool
    P = q ++ true ∷ []

    r : List Bool
    r = bits_of (suc k) s

    width : length P ≡ suc k
    width = length_p q ∙ ap suc (length_bits k (p / 2 ^ 1))

    lr : length (run P r a) ≡ suc (length q)
    lr = length_run P r a (length_bits (suc k) s ∙ sym width) ∙ length_bits (suc k) s ∙ sym (ap suc (length_bits k (p / 2 ^ 1)))

    more : (zs : List Bool) → length (run P (run P r a) zs) ≡ suc (length q)
    more zs = length_run P (run P r a) zs (lr ∙ sym (length_p q)) ∙ lr

    twice : (zs : List Bool) → run P r (a ++ (zs ++ c)) ≡ run P (run P (run P r a) zs) c
    twice zs = run_append P r a (zs ++ c) ∙ run_append P (run P r a) zs c

    as_run : (zs : List Bool) → run P r zs ≡ bits_of (suc k) (crc (suc k) p s zs)
    as_run zs = ap (λ (x : List Bool). run x r zs) (sym (low_bit k p o)) ∙ sym (crc_bits (suc k) p s zs)

    both : run P r (a ++ (xs ++ c)) ≡ run P r (a ++ (ys ++ c))
    both = as_run (a ++ (xs ++ c)) ∙ ap (bits_of (suc k)) e ∙ sym (as_run (a ++ (ys ++ c)))

-- ---- over bytes

-- a byte's bits, and those of the rest
split_byte : (x y : ℕ) (l l' : List Bool) → bits_of 8 x ++ l ≡ bits_of 8 y ++ l' → (bits_of 8 x ≡ bits_of 8 y) × (l ≡ l')
split_byte x y l l' e = (
  sym (take_at (bits_of 8 x) l 8 (length_bits 8 x)) ∙ ap (take 8) e ∙ take_at (bits_of 8 y) l' 8 (length_bits 8 y),
  sym (drop_at (bits_of 8 x) l 8 (length_bits 8 x)) ∙ ap (drop 8) e ∙ drop_at (bits_of 8 y) l' 8 (length_bits 8 y),
)

-- bytes are told by their bits
pub bytes_inj : (xs ys : List ℕ) → length xs ≡ length ys → AreBytes xs → AreBytes ys → bytes_bits xs ≡ bytes_bits ys → xs ≡ ys
unfolding bytes_bits
bytes_inj [] [] h bx by e = refl
bytes_inj [] (y ∷ ys) h bx by e = absurd (omega arith)
bytes_inj (x ∷ xs) [] h bx by e = absurd (omega arith)
bytes_inj (x ∷ xs) (y ∷ ys) h bx by e =
    let s = split_byte x y (bytes_bits xs) (bytes_bits ys) e in
    ap₂ ◌∷◌ (bits_inj 8 x y (bx.byte 0) (by.byte 0) s.0)
    (bytes_inj xs ys (suc_inj h) (record { byte = λ i. bx.byte (suc i) }) (record { byte = λ i. by.byte (suc i) }) s.1)

pub length_bytes_lem : (xs : List ℕ) → length (bytes_bits xs) ≡ 8 * length xs
unfolding bytes_bits
length_bytes_lem [] = refl
length_bytes_lem (x ∷ xs) = length-append (bits_of 8 x) (bytes_bits xs) ∙ omega (arith, length_bits 8 x, length_bytes_lem xs)

-- strings that differ within as many bytes as the register has have different checks
pub crc_bytes_burst : (w p s : ℕ) (a xs ys c : List ℕ) → 0 < w → odd p ≡ true → length xs ≡ length ys → 8 * length xs ≤ w → AreBytes xs → AreBytes ys
    → crc w p s (bytes_bits (a ++ (xs ++ c))) ≡ crc w p s (bytes_bits (a ++ (ys ++ c))) → xs ≡ ys
crc_bytes_burst w p s a xs ys c pos o h le bx by e =
    bytes_inj xs ys h bx by
    (crc_burst w p s (bytes_bits a) (bytes_bits xs) (bytes_bits ys) (bytes_bits c) pos o
    (length_bytes_lem xs ∙ ap (λ (n : ℕ). 8 * n) h ∙ sym (length_bytes_lem ys)) (rw length_bytes_lem le)
    (ap (crc w p s) (sym (three xs)) ∙ e ∙ ap (crc w p s) (three ys)))
  where
    three : (zs : List ℕ) → bytes_bits (a ++ (zs ++ c)) ≡ bytes_bits a ++ (bytes_bits zs ++ bytes_bits c)
    three zs = bytes_append a (zs ++ c) ∙ ap (λ (l : List Bool). bytes_bits a ++ l) (bytes_append zs c)

pub big_endian_bytes : (k n : ℕ) → AreBytes (big_endian k n)
unfolding big_endian
big_endian_bytes k n = record { byte = at k }
  where
    at : (k i : ℕ) → get_or (big_endian k n) i 0 < 256
    at zero i = omega arith
    at (suc k) zero = omega arith
    at (suc k) (suc i) = at k i

pub length_big_endian : (k n : ℕ) → length (big_endian k n) ≡ k
unfolding big_endian
length_big_endian zero n = refl
length_big_endian (suc k) n = ap suc (length_big_endian k n)

-- only a check's own bytes after its string leave the register zero
pub crc_only : (k p s : ℕ) (xs ys : List ℕ) → 0 < k → odd p ≡ true → length ys ≡ k → AreBytes ys
    → crc (8 * k) p s (bytes_bits (xs ++ ys)) ≡ 0 → ys ≡ big_endian k (crc (8 * k) p s (bytes_bits xs))
crc_only k p s xs ys pos o h by e =
    let own : List ℕ = big_endian k (crc (8 * k) p s (bytes_bits xs)) in
    crc_bytes_burst (8 * k) p s xs ys own [] (omega arith) o (h ∙ sym (length_big_endian k _)) (omega arith) by (big_endian_bytes k _)
    (ap (λ (l : List ℕ). crc (8 * k) p s (bytes_bits (xs ++ l))) (append-nil ys) ∙ e
    ∙ sym (ap (λ (l : List ℕ). crc (8 * k) p s (bytes_bits (xs ++ l))) (append-nil own) ∙ crc_closed k p s xs))

-- a changed bit changes the check
pub crc_one_bit : (w p s : ℕ) (xs : List ℕ) (i k : ℕ) → 8 ≤ w → odd p ≡ true → i < length xs → k < 8
    → crc w p s (bytes_bits (bit_changed xs i k)) ≡ crc w p s (bytes_bits xs) → ⊥
unfolding bit_changed bytes_bits
crc_one_bit w p s xs i k le o h small e = omega (arith, pow_pos k, none)
  where
    x : ℕ
    x = get_or xs i 0

    changed : List Bool
    changed = bits_of 8 (bit_xor x (2 ^ k))

    three : (b : ℕ) → bytes_bits (take i xs ++ b ∷ drop (suc i) xs) ≡ bytes_bits (take i xs) ++ (bits_of 8 b ++ bytes_bits (drop (suc i) xs))
    three b = bytes_append (take i xs) (b ∷ drop (suc i) xs)

    same : changed ≡ bits_of 8 x
    same =
        crc_burst w p s (bytes_bits (take i xs)) changed (bits_of 8 x) (bytes_bits (drop (suc i) xs)) (omega arith) o
        (length_bits 8 (bit_xor x (2 ^ k)) ∙ sym (length_bits 8 x)) (rw length_bits le)
        (ap (crc w p s) (sym (three (bit_xor x (2 ^ k)))) ∙ ap (λ (l : List ℕ). crc w p s (bytes_bits l)) (sym (set_split xs i (bit_xor x (2 ^ k)) h))
        ∙ e ∙ ap (λ (l : List ℕ). crc w p s (bytes_bits l)) (split_at xs i 0 h) ∙ ap (crc w p s) (three x))

    none : 2 ^ k ≡ 0
    none =
        bits_inj 8 (2 ^ k) 0 (pow-lt small) (lit< tt)
        (plus_same (bits_of 8 x) (bits_of 8 (2 ^ k)) (length_bits 8 x ∙ sym (length_bits 8 (2 ^ k))) (sym (bits_xor 8 x (2 ^ k)) ∙ same)
        ∙ ap (λ (n : ℕ). replicate n false) (length_bits 8 x) ∙ sym (bits_zero 8))

-- ---- as they stand for CRC-16 and CRC_32

-- four ones in front change the CRC-16 of any bits
pub crc16_four_ones : (bits : List Bool) → crc16_bits (true ∷ true ∷ true ∷ true ∷ bits) ≡ crc16_bits bits → ⊥
unfolding crc16_bits odd bits_of digit value plus fed step run crc xor
crc16_four_ones bits e = omega (arith, crc_start 16 0x1021 0xFFF0 0xFFFF bits (lit< tt) refl (lit< tt) (lit< tt) e)

pub crc32_burst : (a xs ys c : List ℕ) → length xs ≡ length ys → length xs ≤ 4 → AreBytes xs → AreBytes ys
    → crc32_of (a ++ (xs ++ c)) ≡ crc32_of (a ++ (ys ++ c)) → xs ≡ ys
unfolding crc32_of odd
crc32_burst a xs ys c h le bx by e = crc_bytes_burst _ _ _ a xs ys c (lit< tt) refl h (omega arith) bx by e

pub crc32_only : (s t : List ℕ) → length t ≡ 4 → AreBytes t → crc32_of (s ++ t) ≡ 0 → t ≡ big_endian 4 (crc32_of s)
unfolding crc32_of odd
crc32_only s t h b e = crc_only 4 _ _ s t (lit< tt) refl h b e

pub crc32_one_bit : (s : List ℕ) (i k : ℕ) → i < length s → k < 8 → crc32_of (bit_changed s i k) ≡ crc32_of s → ⊥
unfolding crc32_of odd
crc32_one_bit s i k h small e = crc_one_bit _ _ _ s i k (omega arith) refl h small e
