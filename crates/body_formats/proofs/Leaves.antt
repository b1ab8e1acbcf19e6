-- The laws of leaves: numbers over the width, reserved bits over their number and the width, bytes and digits over their count.
use Prim.Native.Nat.{ℕ, zero, suc, ◌+◌, ◌-◌, ◌*◌, ◌/◌, ◌%◌, ◌^◌, ◌≤◌, ◌<◌}
use mathlib.Core.Path.{◌≡◌, refl, sym, ap, ap₂, ◌∙◌}
use mathlib.Core.List.{List, [], ◌∷◌, ◌++◌}
use mathlib.Core.Bool.{true}
use native.Mathlib.Omega.{arith}
use native.Mathlib.Nat.{add-zero, zero-add, pow-suc, pow-zero, div-add-mod', mod-lt, mod-eq_of_lt, div-div-eq-div-mul, mul_comm, mul_assoc, mul-pos, one-le-pow, div-one, div-lt_iff_lt-mul}
use lib.ListN.{length, get_or, take, drop, length-append, length-drop}
use lib.Seq.{length-take-le, drop-cons}
use lib.Arith.{digits_lt, digits_div, digits_mod}
use lib.Pow.{pow_pos, pow-add}
use lib.Dec.{ltb, eqb}
use borrow.Author.Tests.{ltb-true, eqb-true, le-leb, lt-ltb, eq-eqb, not-false}
use Rattle.ground_choices.proofs.Tests.{both, and_of}
use Rattle.ground_refusal.specs.declared.Refusal.TheVariants.{OutsideSet, ReservedBitZero, DigitAboveNine}
use Rattle.body_formats.specs.Reading.{Reading, found}
use Rattle.body_formats.specs.Format.{tape_entry, span, number_at, bytes_of, count, reserved_first, below, reserved, bytes, halves, paired, tail, decimal, digits}
use Rattle.body_formats.proofs.Stand.{Stands, stands_nil, stands_left, stands_right, stands_join, stands_take, taken, stands_get, stands_next, stands_byte}
use Rattle.body_formats.proofs.Outcomes.{found_inj, and_then_found, need_found, within_found, within_there}
use Rattle.body_formats.proofs.Classes.{Bytes, Proper, Forth, Lawful, moved}

-- ---- entries of a tape

pub entry_laid : (tape : List ℕ) (k x : ℕ) (xs : List ℕ) → Stands tape k (x ∷ xs) → k + 1 ≤ length tape → tape_entry tape k ≡ found x (k + 1)
unfolding tape_entry
entry_laid tape k x xs t h = rw (le-leb (k + 1) (length tape) h, stands_get tape k x xs t)

pub span_laid : (pool tape : List ℕ) (k p : ℕ) (xs : List ℕ) → Stands pool p xs → p + length xs ≤ length pool
    → Stands tape k (p ∷ length xs ∷ []) → k + 2 ≤ length tape → span pool tape k ≡ found xs (k + 2)
unfolding span
span_laid pool tape k p xs t h u r =
    let start = stands_get tape k p (length xs ∷ []) u in
    let size = stands_get tape (k + 1) (length xs) [] (stands_next tape k p (length xs ∷ []) u) in
    rw (le-leb (k + 2) (length tape) r, start, size, le-leb (p + length xs) (length pool) h, taken pool p xs t)

-- ---- numbers

pub length_bytes_lem : (w x : ℕ) → length (bytes_of w x) ≡ w
unfolding bytes_of
length_bytes_lem zero x = refl
length_bytes_lem (suc w) x = simp length-append (omega (arith, length_bytes_lem w (x / 256)))

pub number_value : (s : List ℕ) (p w x : ℕ) → x < 256 ^ w → Stands s p (bytes_of w x) → number_at s p w ≡ x
unfolding bytes_of number_at
number_value s p zero x h t = omega (arith, pow-zero 256)
number_value s p (suc w) x h t =
    let hi = number_value s p w (x / 256) ((div-lt_iff_lt-mul (omega arith)).1 (rw (← pow-suc 256 w) h)) (stands_left s p (bytes_of w (x / 256)) _ t) in
    let lo : get_or s (p + w) 0 ≡ x % 256 =
    ap (λ (j : ℕ). get_or s (p + j) 0) (sym (length_bytes_lem w (x / 256))) ∙ stands_get s _ _ [] (stands_right s p (bytes_of w (x / 256)) _ t) in
    omega (arith, hi, lo)

pub number_below : (s : List ℕ) (p w : ℕ) → Bytes s → number_at s p w < 256 ^ w
unfolding number_at
number_below s p zero b = omega (arith, pow-zero 256)
number_below s p (suc w) b = rw pow-suc (digits_lt (number_below s p w b) (b (p + w)))

pub number_stands : (s : List ℕ) (p w : ℕ) → Bytes s → p + w ≤ length s → Stands s p (bytes_of w (number_at s p w))
unfolding bytes_of number_at
number_stands s p zero b h = stands_nil s p
number_stands s p (suc w) b h =
    rw (digits_div (number_at s p w) (b (p + w)), digits_mod (number_at s p w) (b (p + w)))
    (stands_join s p (bytes_of w (number_at s p w)) (get_or s (p + w) 0 ∷ []) (number_stands s p w b (omega arith))
    (rw length_bytes_lem (stands_byte s (p + w) (omega arith))))

pub count_small : (w x : ℕ) → x < 256 ^ w → Proper (count w) x
unfolding count
count_small w x h = record { writable = refl; small = rw (lt-ltb x (256 ^ w) h) }

pub small_count : (w x : ℕ) → Proper (count w) x → x < 256 ^ w
unfolding count
small_count w x o = ltb-true x (256 ^ w) (not-false (ltb x (256 ^ w)) o.small)

pub count_lawful : (w : ℕ) → Lawful (count w)
unfolding count
count_lawful w =
    record {
      back = λ s l p x o t h k.
          within_there s l p (p + w) _ (rw length_bytes_lem at h) k
          ∙ rw (number_value s p w x (ltb-true x (256 ^ w) (not-false (ltb x (256 ^ w)) o.small)) t, length_bytes_lem);
      forth = λ s l p x q b k h e.
          let f = within_found s l p (p + w) _ x q e in
          let i = found_inj f.2 in
          rw (← i.0, ← i.1)
          record {
            ok = record { writable = refl; small = rw (lt-ltb _ _ (number_below s p w b)) };
            stands = number_stands s p w b f.0;
            next = rw length_bytes_lem;
            inside = f.1;
          };
      formal = record {
        sound = λ pool tape k x j e. refl;
        laid = λ pool p tape k x r t h u m. entry_laid tape k x [] u m;
        steady = λ x p. refl;
      };
    }

-- ---- reserved bits

module _ {A : Type 0} (k : ℕ) (s : List ℕ) (l p : ℕ) (x : Reading A) where
  pub reserved_there : (b : ℕ) (bs : List ℕ) → Stands s p (b ∷ bs) → b / 2 ^ (8 - k) ≡ 2 ^ k - 1 → p + 1 ≤ l → l ≤ length s
      → reserved_first k s l p x ≡ x
  reserved_there b bs t e h m =
      within_there s l p (p + 1) _ h m
      ∙ rw (stands_get s p b bs t, eq-eqb (b / 2 ^ (8 - k)) (2 ^ k - 1) e)

  pub reserved_found : (a : A) (q : ℕ) → reserved_first k s l p x ≡ found a q → (get_or s p 0 / 2 ^ (8 - k) ≡ 2 ^ k - 1) × (x ≡ found a q)
  reserved_found a q e =
      let f = within_found s l p (p + 1) _ a q e in
      let g = need_found (eqb (get_or s p 0 / 2 ^ (8 - k)) (2 ^ k - 1)) (ReservedBitZero p) x a q f.2 in
      (eqb-true _ _ g.0, g.1)

-- the first byte of a number, printed and read
bytes_first : (w x : ℕ) → x < 256 ^ suc w → (bs : List ℕ) × (bytes_of (suc w) x ≡ (x / 256 ^ w) ∷ bs)
unfolding bytes_of
bytes_first zero x h =
    let l : x < 256 = omega (arith, pow-suc 256 0, pow-zero 256) in
    ([], ap (λ y. y ∷ []) (mod-eq_of_lt l ∙ rw (pow-zero, div-one)))
bytes_first (suc w) x h =
    let i = bytes_first w (x / 256) ((div-lt_iff_lt-mul (omega arith)).1 (rw (← pow-suc 256 (suc w)) h)) in
    let e : x / 256 / 256 ^ w ≡ x / 256 ^ suc w = div-div-eq-div-mul x 256 (256 ^ w) ∙ ap (λ y. x / y) (mul_comm 256 (256 ^ w) ∙ sym (pow-suc 256 w)) in
    (i.0 ++ ((x % 256) ∷ []), rw i.1 (ap (λ y. y ∷ (i.0 ++ ((x % 256) ∷ []))) e))

number_first : (s : List ℕ) (p w : ℕ) → Bytes s → number_at s p (suc w) / 256 ^ w ≡ get_or s p 0
unfolding number_at
number_first s p zero b = rw (pow-zero, div-one, add-zero, zero-add)
number_first s p (suc w) b =
    ap (λ y. number_at s p (suc (suc w)) / y) (pow-suc 256 w ∙ mul_comm (256 ^ w) 256)
    ∙ sym (div-div-eq-div-mul (number_at s p (suc (suc w))) 256 (256 ^ w))
    ∙ ap (λ y. y / 256 ^ w) (digits_div (number_at s p (suc w)) (b (p + suc w)))
    ∙ number_first s p w b

bytes_pos : (w : ℕ) → 0 < 256 ^ w
bytes_pos w = one-le-pow w 256 (omega arith)

-- one law over the number of reserved bits and the number of bytes
module _ (k w : ℕ) (bits : k ≤ 8) where
  pub all_of : 2 ^ k * below k w ≡ 256 ^ suc w
  all_of =
      let e : 2 ^ k * 2 ^ (8 - k) ≡ 256 = sym (pow-add 2 k (8 - k)) ∙ ap (λ n. 2 ^ n) (let z : k + (8 - k) ≡ 8 = omega arith in z) in
      sym (mul_assoc (2 ^ k) (256 ^ w) (2 ^ (8 - k))) ∙ ap (λ y. y * 2 ^ (8 - k)) (mul_comm (2 ^ k) (256 ^ w)) ∙ mul_assoc (256 ^ w) (2 ^ k) (2 ^ (8 - k))
      ∙ ap (λ y. 256 ^ w * y) e ∙ sym (pow-suc 256 w)

  fits_all : (x : ℕ) → x < below k w → (2 ^ k - 1) * below k w + x < 256 ^ suc w
  fits_all x h = rw (← all_of) (digits_lt {m = 2 ^ k} (let z = pow_pos k in omega arith) h)

  pub reserved_lawful : Lawful (reserved k w)
  unfolding reserved
  reserved_lawful =
      record {
        back = λ s l p x o t h m.
            let lt = ltb-true x (below k w) o.writable in
            let y = (2 ^ k - 1) * below k w + x in
            let first = bytes_first w y (fits_all x lt) in
            let top : y / 256 ^ w / 2 ^ (8 - k) ≡ 2 ^ k - 1 = div-div-eq-div-mul y (256 ^ w) (2 ^ (8 - k)) ∙ digits_div (2 ^ k - 1) lt in
            reserved_there k s l p _ (y / 256 ^ w) first.0 (rw first.1 at t) top (omega (arith, rw length_bytes_lem at h)) m
            ∙ within_there s l p (p + suc w) _ (rw length_bytes_lem at h) m
            ∙ rw (number_value s p (suc w) y (fits_all x lt) t, digits_mod (2 ^ k - 1) lt, length_bytes_lem);
        forth = λ s l p x q b m h e.
            let g = reserved_found k s l p _ x q e in
            let f = within_found s l p (p + suc w) _ x q g.1 in
            let i = found_inj f.2 in
            let n = number_at s p (suc w) in
            let top : n / below k w ≡ 2 ^ k - 1 =
            sym (div-div-eq-div-mul n (256 ^ w) (2 ^ (8 - k))) ∙ ap (λ y. y / 2 ^ (8 - k)) (number_first s p w b) ∙ g.0 in
            let whole : (2 ^ k - 1) * below k w + n % below k w ≡ n = ap (λ z. z * below k w + n % below k w) (sym top) ∙ div-add-mod' n (below k w) in
            moved (reserved k w) s l p i
            record {
              ok = record { writable = lt-ltb (n % below k w) (below k w) (mod-lt n (below_pos)); small = refl };
              stands = rw whole (number_stands s p (suc w) b f.0);
              next = rw length_bytes_lem;
              inside = f.1;
            };
        formal = record {
          sound = λ pool tape j x i e.
              let a = and_then_found (tape_entry tape j) _ x i e in
              let g = need_found (ltb a.0 (below k w)) (OutsideSet j) _ x i a.3 in
              rw (← (found_inj g.1).0) g.0;
          laid = λ pool p tape j x r t h u m. rw (entry_laid tape j x [] u m, r);
          steady = λ x p. refl;
        };
      }
    where
      below_pos : 0 < below k w
      below_pos = mul-pos (bytes_pos w) (pow_pos (8 - k))

-- ---- several bytes that are one field

pub bytes_lawful : (n : ℕ) → Lawful (bytes n)
unfolding bytes
bytes_lawful n =
    record {
      back = λ s l p xs o t h k.
          let e : length xs ≡ n = eqb-true (length xs) n o.writable in
          within_there s l p (p + n) _ (rw e at h) k ∙ rw (← e, taken s p xs t);
      forth = λ s l p xs q b k h e.
          let f = within_found s l p (p + n) _ xs q e in
          let m = length-take-le n (drop p s) (simp length-drop (omega (arith, f.0))) in
          moved (bytes n) s l p (found_inj f.2)
          record { ok = record { writable = rw (m, eq-eqb n n refl); small = refl }; stands = stands_take s p n; next = rw m; inside = f.1 };
      formal = record {
        sound = λ pool tape k xs j e.
            let i = and_then_found (span pool tape k) _ xs j e in
            let g = need_found (eqb (length i.0) n) (OutsideSet k) _ xs j i.3 in
            rw (← (found_inj g.1).0) g.0;
        laid = λ pool p tape k xs r t h u m.
            let e : length xs ≡ n = eqb-true (length xs) n r in
            rw (span_laid pool tape k p xs t h (rw e u) m, r);
        steady = λ xs p. refl;
      };
    }

-- ---- digits

pub paired_halves : (bs : List ℕ) → paired (halves bs) ≡ bs
unfolding paired halves
paired_halves [] = refl
paired_halves (b ∷ bs) = ap₂ (λ (x : ℕ) (r : List ℕ). x ∷ r) (div-add-mod' b 16) (paired_halves bs)

pub length_halves : (bs : List ℕ) → length (halves bs) ≡ length bs + length bs
unfolding halves
length_halves [] = refl
length_halves (b ∷ bs) = omega (arith, length_halves bs)

-- a half and then 2 h + 1 digits
halves_paired : (h a : ℕ) (ds : List ℕ) → length ds ≡ h + h + 1 → decimal ds ≡ true
    → (halves (paired (a ∷ ds)) ≡ a ∷ ds) × (length (paired (a ∷ ds)) ≡ suc h)
unfolding paired halves decimal
halves_paired h a [] n d = absurd (omega arith)
halves_paired zero a (x ∷ []) n d =
    let l : x < 16 = omega (arith, ltb-true x 10 (both (ltb x 10) true d).0) in
    (rw (digits_div a l, digits_mod a l), refl)
halves_paired zero a (x ∷ (y ∷ r)) n d = absurd (omega arith)
halves_paired (suc h) a (x ∷ []) n d = absurd (omega arith)
halves_paired (suc h) a (x ∷ (y ∷ r)) n d =
    let c = both (ltb x 10) (decimal (y ∷ r)) d in
    let e = both (ltb y 10) (decimal r) c.1 in
    let l : x < 16 = omega (arith, ltb-true x 10 c.0) in
    let i = halves_paired h y r (omega arith) e.1 in
    (rw (digits_div a l, digits_mod a l, i.0), ap suc i.1)

module _ (h : ℕ) where
  -- the bytes of digits, and their first one
  digits_of : (ds : List ℕ) → (digits h).writable ds ≡ true
      → (halves (paired (15 ∷ ds)) ≡ 15 ∷ ds) × (length (paired (15 ∷ ds)) ≡ suc h) × (decimal ds ≡ true)
  unfolding digits
  digits_of ds r =
      let c = both (eqb (length ds) (h + h + 1)) (decimal ds) r in
      let i = halves_paired h 15 ds (eqb-true (length ds) (h + h + 1) c.0) c.1 in
      (i.0, i.1, c.1)

  first_of : (ds : List ℕ) → decimal ds ≡ true → (b : ℕ) × (bs : List ℕ) × (paired (15 ∷ ds) ≡ b ∷ bs) × (b / 16 ≡ 15)
  unfolding paired decimal
  first_of [] d = (240, [], refl, refl)
  first_of (x ∷ r) d =
      let l : x < 16 = omega (arith, ltb-true x 10 (both (ltb x 10) (decimal r) d).0) in
      (15 * 16 + x, paired r, refl, digits_div 15 l)

  -- the halves of bytes that begin with four ones
  halves_of : (bs : List ℕ) → length bs ≡ suc h → get_or bs 0 0 / 16 ≡ 15
      → (paired (15 ∷ tail (halves bs)) ≡ bs) × (length (tail (halves bs)) ≡ h + h + 1)
  unfolding halves
  halves_of [] n e = absurd (omega arith)
  halves_of (b ∷ bs) n e =
      (ap (λ (x : ℕ). paired (x ∷ b % 16 ∷ halves bs)) (sym e) ∙ paired_halves (b ∷ bs), omega (arith, length_halves bs))

  digits_back : (s : List ℕ) (l p : ℕ) (ds : List ℕ) → Proper (digits h) ds → Stands s p (paired (15 ∷ ds)) → p + length (paired (15 ∷ ds)) ≤ l → l ≤ length s
      → (digits h).parse s l p ≡ found ds (p + length (paired (15 ∷ ds)))
  unfolding digits
  digits_back s l p ds o t e k =
      let c = digits_of ds o.writable in
      let f = first_of ds c.2 in
      let n = c.1 in
      let bs : take (suc h) (drop p s) ≡ paired (15 ∷ ds) = ap (λ m. take m (drop p s)) (sym n) ∙ taken s p (paired (15 ∷ ds)) t in
      reserved_there 4 s l p _ f.0 f.1 (rw f.2 at t) f.3 (omega (arith, n)) k
      ∙ within_there s l p (p + suc h) _ (omega (arith, n)) k
      ∙ rw (bs, c.0, c.2, n)

  digits_forth : Forth (digits h)
  unfolding digits
  digits_forth s l p ds q b k e x =
      let g = reserved_found 4 s l p _ ds q x in
      let f = within_found s l p (p + suc h) _ ds q g.1 in
      let bs = take (suc h) (drop p s) in
      let d = need_found (decimal (tail (halves bs))) (DigitAboveNine p) _ ds q f.2 in
      let n : length bs ≡ suc h = length-take-le (suc h) (drop p s) (simp length-drop (omega (arith, f.0))) in
      let head : get_or bs 0 0 ≡ get_or s p 0 = ap (λ r. get_or (take (suc h) r) 0 0) (drop-cons s p 0 (omega (arith, f.0))) in
      let i = halves_of bs n (ap (λ y. y / 16) head ∙ g.0) in
      moved (digits h) s l p (found_inj d.1)
      record {
        ok = record { writable = and_of (eq-eqb _ _ i.1) d.0; small = refl };
        stands = rw i.0 (stands_take s p (suc h));
        next = rw (i.0, n);
        inside = f.1;
      }

  pub digits_lawful : Lawful (digits h)
  unfolding digits
  digits_lawful =
      record {
        back = digits_back;
        forth = digits_forth;
        formal = record {
          sound = λ pool tape k ds j e.
              let i = and_then_found (span pool tape k) _ ds j e in
              let m = need_found (eqb (length i.0) (suc h)) (OutsideSet k) _ ds j i.3 in
              let d = need_found (decimal (tail (halves i.0))) (DigitAboveNine k) _ ds j m.1 in
              rw (← (found_inj d.1).0)
              (and_of (eq-eqb (length (tail (halves i.0))) (h + h + 1) (tail_length i.0 (eqb-true (length i.0) (suc h) m.0))) d.0);
          laid = λ pool p tape k ds r t e u m.
              let c = digits_of ds r in
              rw (span_laid pool tape k p (paired (15 ∷ ds)) t e (rw c.1 u) m, c.1, eq-eqb (suc h) (suc h) refl, c.0, c.2);
          steady = λ ds p. refl;
        };
      }
    where
      tail_length : (bs : List ℕ) → length bs ≡ suc h → length (tail (halves bs)) ≡ h + h + 1
      tail_length bs n = omega (arith, length_halves bs, n, tail_less (halves bs))
        where
          tail_less : (r : List ℕ) → length (tail r) ≡ length r - 1
          tail_less [] = refl
          tail_less (a ∷ r) = omega arith
