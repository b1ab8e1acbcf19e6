-- Laws of bytes of the pool inked: opaque ones after their length, those that fill a part, fixed ones, and decimal digits.
use Prim.Native.Nat.{ℕ, suc, ◌+◌, ◌-◌, ◌%◌, ◌≤◌, ◌<◌}
use mathlib.Core.Path.{◌≡◌, refl, sym, ap, ap₂, ◌∙◌}
use mathlib.Core.List.{List, ◌∷◌, ◌++◌}
use native.Mathlib.Omega.{arith}
use native.Mathlib.Numerals.{add-one}
use native.Mathlib.Nat.{add-sub_cancel_left}
use lib.ListN.{length, get_or, take, drop, length-append}
use lib.Seq.{drop-cons}
use lib.Dec.{leb, eqb}
use borrow.Author.Tests.{leb-true, ltb-true, eqb-true}
use Rattle.ground_choices.proofs.Tests.{both as each}
use Rattle.ground_numbers.specs.Sizes.{body_most}
use Rattle.ground_placing.specs.Placed.{placed}
use Rattle.ground_placing.proofs.Placing.{placed_next}
use Rattle.ground_refusal.specs.declared.Refusal.TheVariants.{DigitAboveNine, OutsideSet}
use Rattle.body_formats.specs.Reading.{found}
use Rattle.body_formats.specs.Format.{span, bytes_of, count, number, ◌▷◌, view, bytes, halves, paired, tail, decimal, digits, rest, length_of, counted, opaque}
use Rattle.body_formats.proofs.Outcomes.{found_inj, and_then_found, need_found}
use Rattle.body_formats.proofs.Leaves.{length_bytes_lem, paired_halves}
use Rattle.body_formats.proofs.Strings.{first_digit}
use Rattle.body_pen.proofs.Leaves.{span_length}
use Rattle.body_ink.specs.Inked.{Ready, Inked}
use Rattle.body_ink.proofs.Pairs.{Fixed, view_ready, view_inked, pair_inked}
use Rattle.body_ink.proofs.Numbers.{one_byte, a_number, numeral_inked, after_number}

-- ---- bytes of the pool

pub span_end : (pool : List ℕ) (a n : ℕ) → take (a + n - a) (drop a pool) ≡ take n (drop a pool)
span_end pool a n = ap (λ m. take m (drop a pool)) (add-sub_cancel_left a n)

-- what the entries k and k + 1 say
abbrev pub spanned : List ℕ → List ℕ → ℕ → List ℕ
spanned pool tape k = take (get_or tape (k + 1) 0) (drop (get_or tape k 0) pool)

module _ (pool tape : List ℕ) (k : ℕ) where
  span_is : (xs : List ℕ) (j : ℕ) → span pool tape k ≡ found xs j
      → (k + 2 ≤ length tape) × (get_or tape k 0 + get_or tape (k + 1) 0 ≤ length pool) × (xs ≡ spanned pool tape k) × (j ≡ k + 2)
      × (length xs ≡ get_or tape (k + 1) 0)
  unfolding span
  span_is xs j h =
      let entries = need_found (leb (k + 2) (length tape)) (OutsideSet k) _ xs j h in
      let inside = need_found (leb (get_or tape k 0 + get_or tape (k + 1) 0) (length pool)) (OutsideSet k) _ xs j entries.1 in
      let z = found_inj inside.1 in
      let fits = leb-true (get_or tape k 0 + get_or tape (k + 1) 0) (length pool) inside.0 in (
        leb-true (k + 2) (length tape) entries.0,
        fits,
        sym z.0,
        sym z.1,
        ap length (sym z.0) ∙ span_length pool (get_or tape k 0) (get_or tape (k + 1) 0) fits,
      )

-- ---- opaque bytes

module _ (w : ℕ) {pool tape : List ℕ} {at k : ℕ} where
  pub part_ready : {room : ℕ} → Ready (opaque w) pool tape at k room
      → (k + 2 ≤ length tape) × (get_or tape k 0 + get_or tape (k + 1) 0 ≤ length pool) × (at + w + get_or tape (k + 1) 0 ≤ room)
      × (at + w + get_or tape (k + 1) 0 ≤ body_most)
  unfolding counted rest length_of count
  part_ready g =
      let s = span_is pool tape k g.value g.next g.laid in
      let n = length-append (bytes_of w (length g.value)) g.value in
      let l = length_bytes_lem w (length g.value) in
      (s.0, s.1, omega (arith, n, l, s.4, g.fits), omega (arith, n, l, s.4, g.short))

  pub part_inked : {out mid : List ℕ} {at' k' : ℕ} {out' : List ℕ} → mid ≡ placed out at (bytes_of w (get_or tape (k + 1) 0))
      → out' ≡ placed mid (at + w) (take (get_or tape (k + 1) 0) (drop (get_or tape k 0) pool)) → at' ≡ at + w + get_or tape (k + 1) 0 → k' ≡ k + 2
      → Inked (opaque w) pool tape at k out at' k' out'
  unfolding counted rest length_of count
  part_inked {out} {mid} e f a b =
      record {
        written = λ xs j h room.
            let s = span_is pool tape k xs j h in
            let n = get_or tape (k + 1) 0 in
            let l = length_bytes_lem w (length xs) in
            let m = length-append (bytes_of w (length xs)) xs in (
              omega (arith, l, m, s.4, a),
              b ∙ sym s.3,
              f ∙ ap₂ (λ d x. placed d (at + w) x) (e ∙ ap (λ c. placed out at (bytes_of w c)) (sym s.4)) (sym s.2)
                  ∙ placed_next out at (bytes_of w (length xs)) (omega (arith, l, m)) xs (at + w) (ap (λ c. at + c) (sym l)),
            );
      }

-- a tag or a type of one byte and then opaque bytes, under their names
module _ {A : Type 0} (w : ℕ) (f : ℕ × List ℕ → A) (g : A → ℕ × List ℕ) {pool tape : List ℕ} {at k : ℕ} where
  pub tagged_ready : {room : ℕ} → Ready (view f g (number 1 ▷ opaque w)) pool tape at k room → ((x : ℕ × List ℕ) → g (f x) ≡ x)
      → (k + 3 ≤ length tape) × (at + 1 ≤ room) × (at + 1 ≤ body_most) × Ready (opaque w) pool tape (at + 1) (k + 1) room
  tagged_ready r gf =
      let p = after_number (a_number 1) _ (view_ready f g r gf) in
      let s = part_ready w p in
      (omega arith, omega arith, omega arith, p)

  pub tagged_inked : {out mid : List ℕ} {at' k' : ℕ} {out' : List ℕ} → mid ≡ placed out at (bytes_of 1 (get_or tape k 0))
      → Inked (opaque w) pool tape (at + 1) (k + 1) mid at' k' out' → ((x : ℕ × List ℕ) → g (f x) ≡ x)
      → Inked (view f g (number 1 ▷ opaque w)) pool tape at k out at' k' out'
  tagged_inked e i gf = view_inked (pair_inked (numeral_inked (a_number 1) e refl refl) i) f g gf

module _ {pool tape : List ℕ} {at k : ℕ} where
  pub rest_ready : {room : ℕ} → Ready rest pool tape at k room
      → (k + 2 ≤ length tape) × (get_or tape k 0 + get_or tape (k + 1) 0 ≤ length pool) × (at + get_or tape (k + 1) 0 ≤ room) × (at + get_or tape (k + 1) 0 ≤ body_most)
  unfolding rest
  rest_ready g =
      let s = span_is pool tape k g.value g.next g.laid in
      (s.0, s.1, omega (arith, s.4, g.fits), omega (arith, s.4, g.short))

  pub rest_inked : {out : List ℕ} {at' k' : ℕ} {out' : List ℕ} → out' ≡ placed out at (take (get_or tape (k + 1) 0) (drop (get_or tape k 0) pool))
      → at' ≡ at + get_or tape (k + 1) 0 → k' ≡ k + 2 → Inked rest pool tape at k out at' k' out'
  unfolding rest
  rest_inked {out} e a b =
      record {
        written = λ xs j h room.
            let s = span_is pool tape k xs j h in
            (a ∙ ap (λ c. at + c) (sym s.4), b ∙ sym s.3, e ∙ ap (placed out at) (sym s.2));
      }

-- ---- several bytes that are one field

module _ (n : ℕ) (pool tape : List ℕ) (k : ℕ) where
  bytes_are : (xs : List ℕ) (j : ℕ) → (bytes n).form pool tape k ≡ found xs j
      → (span pool tape k ≡ found xs j) × (get_or tape (k + 1) 0 ≡ n)
  unfolding bytes
  bytes_are xs j h =
      let f = and_then_found (span pool tape k) _ xs j h in
      let m = need_found (eqb (length f.0) n) (OutsideSet k) _ xs j f.3 in
      let s = span_is pool tape k f.0 f.1 f.2 in
      (f.2 ∙ m.1, sym s.4 ∙ eqb-true (length f.0) n m.0)

bytes_print : (n : ℕ) (xs : List ℕ) → length ((bytes n).print xs) ≡ length xs
unfolding bytes
bytes_print n xs = refl

module _ (n : ℕ) {pool tape : List ℕ} {at k : ℕ} where
  pub bytes_ready : {room : ℕ} → Ready (bytes n) pool tape at k room
      → (k + 2 ≤ length tape) × (get_or tape k 0 + n ≤ length pool) × (at + n ≤ room) × (at + n ≤ body_most)
  unfolding bytes
  bytes_ready g =
      let f = bytes_are n pool tape k g.value g.next g.laid in
      let s = span_is pool tape k g.value g.next f.0 in
      (s.0, omega (arith, s.1, f.1), omega (arith, s.4, f.1, g.fits), omega (arith, s.4, f.1, g.short))

  pub bytes_inked : {out : List ℕ} {at' k' : ℕ} {out' : List ℕ} → out' ≡ placed out at (take n (drop (get_or tape k 0) pool))
      → at' ≡ at + n → k' ≡ k + 2 → Inked (bytes n) pool tape at k out at' k' out'
  unfolding bytes
  bytes_inked {out} e a b =
      record {
        written = λ xs j h room.
            let f = bytes_are n pool tape k xs j h in
            let s = span_is pool tape k xs j f.0 in (
              omega (arith, a, s.4, f.1),
              b ∙ sym s.3,
              e ∙ ap (placed out at) (ap (λ c. take c (drop (get_or tape k 0) pool)) (sym f.1) ∙ sym s.2),
            );
      }

-- digits: the pool's bytes, the first one's reserved bits set
module _ (h : ℕ) (pool tape : List ℕ) (k : ℕ) where
  digits_are : (ds : List ℕ) (j : ℕ) → (digits h).form pool tape k ≡ found ds j
      → (k + 2 ≤ length tape) × (get_or tape k 0 + (h + 1) ≤ length pool) × (j ≡ k + 2)
      × ((digits h).print ds ≡ bytes_of 1 (240 + get_or pool (get_or tape k 0) 0 % 16) ++ take h (drop (get_or tape k 0 + 1) pool))
  unfolding digits halves paired
  digits_are ds j e =
      let a = get_or tape k 0 in
      let f = and_then_found (span pool tape k) _ ds j e in
      let m = need_found (eqb (length f.0) (suc h)) (OutsideSet k) _ ds j f.3 in
      let right = need_found (decimal (tail (halves f.0))) (DigitAboveNine k) _ ds j m.1 in
      let s = span_is pool tape k f.0 f.1 f.2 in
      let n : get_or tape (k + 1) 0 ≡ suc h = sym s.4 ∙ eqb-true (length f.0) (suc h) m.0 in
      let z = found_inj right.1 in
      let here : f.0 ≡ take (suc h) (drop a pool) = s.2 ∙ ap (λ c. take c (drop a pool)) n in
      let low = first_digit pool a h (omega (arith, s.1, n)) in
      let nine : get_or pool a 0 % 16 < 10 = ltb-true _ _ (each _ _ (sym low ∙ ap (λ bs. decimal (tail (halves bs))) (sym here) ∙ right.0)).0 in (
        s.0,
        omega (arith, s.1, n),
        sym z.1 ∙ s.3,
        ap (λ d. paired (15 ∷ d)) (sym z.0 ∙ ap (λ bs. tail (halves bs)) here)
            ∙ rw (
              drop-cons pool a 0 (omega (arith, s.1, n)),
              add-one a,
              one_byte (240 + get_or pool a 0 % 16) (omega arith),
              paired_halves (take h (drop (suc a) pool)),
            ),
      )

  digits_length : (ds : List ℕ) (j : ℕ) → (digits h).form pool tape k ≡ found ds j → length ((digits h).print ds) ≡ h + 1
  digits_length ds j e =
      let d = digits_are ds j e in
      let a = get_or tape k 0 in
      let xs = bytes_of 1 (240 + get_or pool a 0 % 16) in
      let ys = take h (drop (a + 1) pool) in
      let n = ap length d.3 ∙ length-append xs ys in
      omega (arith, n, length_bytes_lem 1 (240 + get_or pool a 0 % 16), span_length pool (a + 1) h (omega (arith, d.1)))

module _ (h : ℕ) {pool tape : List ℕ} {at k : ℕ} where
  pub digits_ready : {room : ℕ} → Ready (digits h) pool tape at k room
      → (k + 2 ≤ length tape) × (get_or tape k 0 + (h + 1) ≤ length pool) × (at + (h + 1) ≤ room) × (at + (h + 1) ≤ body_most)
  digits_ready g =
      let d = digits_are h pool tape k g.value g.next g.laid in
      let n = digits_length h pool tape k g.value g.next g.laid in
      (d.0, d.1, omega (arith, n, g.fits), omega (arith, n, g.short))

  pub digits_inked : {out mid out' : List ℕ} {v : ℕ} → v ≡ 240 + get_or pool (get_or tape k 0) 0 % 16 → mid ≡ placed out at (bytes_of 1 v)
      → out' ≡ placed mid (at + 1) (take h (drop (get_or tape k 0 + 1) pool)) → Inked (digits h) pool tape at k out (at + (h + 1)) (k + 2) out'
  digits_inked {out} v e f =
      record {
        written = λ ds j g room.
            let d = digits_are h pool tape k ds j g in
            let n = digits_length h pool tape k ds j g in
            let a = get_or tape k 0 in
            let xs = bytes_of 1 (240 + get_or pool a 0 % 16) in
            let ys = take h (drop (a + 1) pool) in
            let l = length_bytes_lem 1 (240 + get_or pool a 0 % 16) in (
              ap (λ c. at + c) (sym n),
              sym d.2,
              f ∙ ap (λ x. placed x (at + 1) ys) (e ∙ ap (λ b. placed out at (bytes_of 1 b)) v)
                  ∙ placed_next out at xs (omega (arith, n, l)) ys (at + 1) (ap (λ c. at + c) (sym l))
                  ∙ ap (placed out at) (sym d.3),
            );
      }

pub digits_fixed : (h : ℕ) → Fixed (h + 1) 2 (digits h)
digits_fixed h = record { ends = λ pool tape k ds j e. let d = digits_are h pool tape k ds j e in (digits_length h pool tape k ds j e, d.2, d.0) }

pub bytes_fixed : (n : ℕ) → Fixed n 2 (bytes n)
bytes_fixed n =
    record {
      ends = λ pool tape k xs j e.
          let f = bytes_are n pool tape k xs j e in
          let s = span_is pool tape k xs j f.0 in
          (bytes_print n xs ∙ s.4 ∙ f.1, s.3, s.0);
    }
