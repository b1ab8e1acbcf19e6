-- Laws of a pen through bytes of the pool: opaque ones after their length, bytes of a stated set, and decimal digits.
use Prim.Native.Nat.{ℕ, suc, ◌+◌, ◌*◌, ◌%◌, ◌^◌, ◌≤◌, ◌<◌}
use Rattle.std.specs.Prelude.{Result, Ok, Err}
use mathlib.Core.Path.{◌≡◌, refl, sym, ap, ◌∙◌}
use mathlib.Core.List.{List}
use mathlib.Core.Bool.{Bool, true, false, ◌||◌, ◌&&◌}
use native.Mathlib.Omega.{arith}
use lib.ListN.{length, get_or, take, drop, length-append}
use lib.Seq.{drop-cons}
use lib.Dec.{leb, ltb}
use borrow.Author.Tests.{lt-ltb, le-ltb, eq-eqb, ne_eqb}
use Rattle.ground_refusal.specs.declared.Refusal.{Refusal}
use Rattle.ground_refusal.specs.declared.Refusal.TheVariants.{DigitAboveNine, OutsideSet}
use Rattle.body_formats.specs.Reading.{found, refused, need}
use Rattle.body_formats.specs.Format.{span, count, only, bytes, halves, paired, tail, decimal, digits, every, bytes_among, rest, length_of, counted, opaque}
use Rattle.body_formats.proofs.Leaves.{length_bytes_lem, paired_halves}
use Rattle.body_formats.proofs.Strings.{first_digit}
use Rattle.body_pen.specs.Penned.{more, penned}
use Rattle.body_pen.proofs.Leaves.{refused_here, passed, span_length}
use Rattle.body_pen.proofs.Numbers.{count_over}

-- ---- opaque bytes

or_none : (b : Bool) → (b || false) ≡ b
or_none true = refl
or_none false = refl

module _ (w : ℕ) (pool tape : List ℕ) (x : Result (ℕ × ℕ) Refusal) (size k : ℕ) (e : x ≡ Ok (size, k)) where
  pub part_refused : (r : Refusal) → span pool tape k ≡ refused r → Err r ≡ penned (opaque w) pool tape x
  unfolding counted rest
  part_refused r f = refused_here (opaque w) pool tape x size k e r f

  pub part_passed : (a n : ℕ) → a + n ≤ length pool → span pool tape k ≡ found (take n (drop a pool)) (k + 2)
      → (p : ℕ) → p ≡ 2 ^ (8 * w) → (z : ℕ) → z ≡ more size (w + n) (leb p n) → Ok (z, k + 2) ≡ penned (opaque w) pool tape x
  unfolding counted rest length_of count
  part_passed a n h f p ep z ez =
      let l : length (take n (drop a pool)) ≡ n = span_length pool a n h in
      passed (opaque w) pool tape x size k e (take n (drop a pool)) (k + 2) f (leb p n) (rw l (or_none _ ∙ count_over w n p ep)) (w + n)
      (rw (length-append, length_bytes_lem, l)) z ez

module _ (pool tape : List ℕ) (x : Result (ℕ × ℕ) Refusal) (size k : ℕ) (e : x ≡ Ok (size, k)) where
  pub rest_refused : (r : Refusal) → span pool tape k ≡ refused r → Err r ≡ penned rest pool tape x
  unfolding rest
  rest_refused r f = refused_here rest pool tape x size k e r f

  pub rest_passed : (a n : ℕ) → a + n ≤ length pool → span pool tape k ≡ found (take n (drop a pool)) (k + 2) → (z : ℕ) → z ≡ more size n false
      → Ok (z, k + 2) ≡ penned rest pool tape x
  unfolding rest
  rest_passed a n h f z ez = passed rest pool tape x size k e (take n (drop a pool)) (k + 2) f false refl n (span_length pool a n h) z ez

-- ---- several bytes that are one field

module _ (lo hi n : ℕ) (pool tape : List ℕ) (x : Result (ℕ × ℕ) Refusal) (size k : ℕ) (e : x ≡ Ok (size, k)) where
  pub bytes_refused : (r : Refusal) → span pool tape k ≡ refused r → Err r ≡ penned (bytes_among lo hi n) pool tape x
  unfolding only bytes
  bytes_refused r f = refused_here (bytes_among lo hi n) pool tape x size k e r (rw f)

  module _ (a m : ℕ) (h : a + m ≤ length pool) (f : span pool tape k ≡ found (take m (drop a pool)) (k + 2)) where
    pub bytes_length : (m ≡ n → ⊥) → Err (OutsideSet k) ≡ penned (bytes_among lo hi n) pool tape x
    unfolding only bytes
    bytes_length g = refused_here (bytes_among lo hi n) pool tape x size k e (OutsideSet k) (rw (f, span_length pool a m h, ne_eqb m n g))

    pub bytes_outside : m ≡ n → every (λ y. leb lo y && leb y hi) (take m (drop a pool)) ≡ false
        → Err (OutsideSet k) ≡ penned (bytes_among lo hi n) pool tape x
    unfolding only bytes
    bytes_outside g t = refused_here (bytes_among lo hi n) pool tape x size k e (OutsideSet k) (rw (f, span_length pool a m h, eq-eqb m n g, t))

    pub bytes_passed : m ≡ n → every (λ y. leb lo y && leb y hi) (take m (drop a pool)) ≡ true → (z : ℕ) → z ≡ more size m false
        → Ok (z, k + 2) ≡ penned (bytes_among lo hi n) pool tape x
    unfolding only bytes
    bytes_passed g t z ez =
        passed (bytes_among lo hi n) pool tape x size k e (take m (drop a pool)) (k + 2) (rw (f, span_length pool a m h, eq-eqb m n g, t))
        false refl m (span_length pool a m h) z ez

module _ (h : ℕ) (pool tape : List ℕ) (x : Result (ℕ × ℕ) Refusal) (size k : ℕ) (e : x ≡ Ok (size, k)) where
  pub digits_refused : (r : Refusal) → span pool tape k ≡ refused r → Err r ≡ penned (digits h) pool tape x
  unfolding digits
  digits_refused r f = refused_here (digits h) pool tape x size k e r (rw f)

  module _ (a n : ℕ) (g : a + n ≤ length pool) (f : span pool tape k ≡ found (take n (drop a pool)) (k + 2)) where
    pub digits_length : (n ≡ suc h → ⊥) → Err (OutsideSet k) ≡ penned (digits h) pool tape x
    unfolding digits
    digits_length l = refused_here (digits h) pool tape x size k e (OutsideSet k) (rw (f, span_length pool a n g, ne_eqb n (suc h) l))

    module _ (l : n ≡ suc h) where
      digits_form : (digits h).form pool tape k
          ≡ need (ltb (get_or pool a 0 % 16) 10 && decimal (halves (take h (drop (a + 1) pool)))) (DigitAboveNine k)
          (found (tail (halves (take (suc h) (drop a pool)))) (k + 2))
      unfolding digits
      digits_form = rw (f, l, span_length pool a (suc h) (omega arith), eq-eqb (suc h) (suc h) refl, first_digit pool a h (omega arith))

      pub digits_first : 9 < get_or pool a 0 % 16 → Err (DigitAboveNine k) ≡ penned (digits h) pool tape x
      digits_first d =
          refused_here (digits h) pool tape x size k e (DigitAboveNine k) (digits_form ∙ rw (le-ltb (get_or pool a 0 % 16) 10 (omega arith)))

      module _ (d : get_or pool a 0 % 16 ≤ 9) where
        pub digits_later : decimal (halves (take h (drop (a + 1) pool))) ≡ false → Err (DigitAboveNine k) ≡ penned (digits h) pool tape x
        digits_later t =
            refused_here (digits h) pool tape x size k e (DigitAboveNine k) (digits_form ∙ rw (lt-ltb (get_or pool a 0 % 16) 10 (omega arith), t))

        -- as many bytes are printed as stand in the pool
        digits_bytes : length ((digits h).print (tail (halves (take (suc h) (drop a pool))))) ≡ suc h
        unfolding digits halves paired
        digits_bytes = rw (drop-cons pool a 0 (omega arith), paired_halves (take h (drop (suc a) pool))) (ap suc (span_length pool (suc a) h (omega arith)))

        pub digits_passed : decimal (halves (take h (drop (a + 1) pool))) ≡ true → (z : ℕ) → z ≡ more size n false
            → Ok (z, k + 2) ≡ penned (digits h) pool tape x
        unfolding digits
        digits_passed t z ez =
            passed (digits h) pool tape x size k e (tail (halves (take (suc h) (drop a pool)))) (k + 2)
            (digits_form ∙ rw (lt-ltb (get_or pool a 0 % 16) 10 (omega arith), t)) false refl n (digits_bytes ∙ sym l) z ez
