-- A text by its form: character after character, and what each then is.
use mathlib.Core.Path.{◌≡◌, refl, ap, ◌∙◌}
use Rattle.std.specs.Prelude.{Err}
use mathlib.Core.Bool.{Bool, true, false, ◌&&◌, cond, and-false}
use mathlib.Core.List.{List, [], ◌∷◌}
use Prim.Native.Nat.{ℕ, zero, suc, ◌+◌, ◌≤◌, ◌<◌}
use native.Mathlib.Nat.{le_of_suc-le-suc}
use native.Mathlib.Numerals.{add-one}
use native.Mathlib.Omega.{arith}
use lib.IntN.{ℤ}
use lib.ListN.{length, get_or, drop, drop_of_length-le}
use lib.Seq.{drop-cons}
use Rattle.ground_refusal.specs.declared.Refusal.TheVariants.{OutsideSet, NotOfTheForm}
use Rattle.ground_choices.proofs.Tests.{both}
use Rattle.ground_numbers.proofs.Ranges.{digit_within}
use Rattle.time_offset.specs.Offset.{is_offset}
use Rattle.time_local.specs.Clock.{pack_of}
use Rattle.time_local.specs.Text.{form, fits, formed, TwoDigits, typed, read_text}

-- ---- the loop: another length, one turn, and the end

pub other_length : (fs s : List ℕ) → (length fs ≡ length s → ⊥) → formed fs s ≡ false
unfolding formed
other_length [] [] h = absurd (h refl)
other_length [] (c ∷ s) h = refl
other_length (f ∷ fs) [] h = refl
other_length (f ∷ fs) (c ∷ s) h =
    ap (λ (t : Bool). fits f c && t) (other_length fs s (λ e. h (ap suc e))) ∙ and-false (fits f c)

pub turn : (fs s : List ℕ) (i : ℕ) → i < length fs → i < length s
    → formed (drop i fs) (drop i s) ≡ (fits (get_or fs i 0) (get_or s i 0) && formed (drop (i + 1) fs) (drop (i + 1) s))
unfolding formed
turn fs s i h k = rw (add-one i, drop-cons fs i 0 h, drop-cons s i 0 k)

pub at_end : (fs s : List ℕ) (i : ℕ) → length fs ≤ i → length s ≤ i → formed (drop i fs) (drop i s) ≡ true
unfolding formed
at_end fs s i h k = rw (drop_of_length-le fs h, drop_of_length-le s k)

-- ---- what a formed text has at each place

pub same_length : (fs s : List ℕ) → formed fs s ≡ true → length fs ≡ length s
unfolding formed
same_length [] [] e = refl
same_length [] (c ∷ s) e = let z : ◌≡◌ {A = ℕ} 0 1 = cc in absurd (omega arith)
same_length (f ∷ fs) [] e = let z : ◌≡◌ {A = ℕ} 0 1 = cc in absurd (omega arith)
same_length (f ∷ fs) (c ∷ s) e = ap suc (same_length fs s (both (fits f c) (formed fs s) e).1)

pub fits_at : (fs s : List ℕ) (i : ℕ) → formed fs s ≡ true → i < length fs → fits (get_or fs i 0) (get_or s i 0) ≡ true
unfolding formed
fits_at [] s i e h = absurd (omega arith)
fits_at (f ∷ fs) [] i e h = let z : ◌≡◌ {A = ℕ} 0 1 = cc in absurd (omega arith)
fits_at (f ∷ fs) (c ∷ s) zero e h = (both (fits f c) (formed fs s) e).0
fits_at (f ∷ fs) (c ∷ s) (suc i) e h = fits_at fs s i (both (fits f c) (formed fs s) e).1 (le_of_suc-le-suc h)

-- the places of a text that have two digits each
pub record Places (s : List ℕ) : Type 0 where
  pub day : TwoDigits s 0
  pub month : TwoDigits s 3
  pub century : TwoDigits s 6
  pub year : TwoDigits s 8
  pub hour : TwoDigits s 11
  pub minute : TwoDigits s 14
  pub second : TwoDigits s 17

module _ (s : List ℕ) (e : formed form s ≡ true) where
  -- where the form has a 0 twice
  two_digits : (i : ℕ) → get_or form i 0 ≡ 48 → get_or form (i + 1) 0 ≡ 48 → i + 1 < 19 → TwoDigits s i
  unfolding fits form
  two_digits i p q h =
      record {
        inside = omega (arith, same_length form s e);
        first = digit_within _ (rw p at (fits_at form s i e (omega arith)));
        second = digit_within _ (rw q at (fits_at form s (i + 1) e h));
      }

  pub places : Places s
  unfolding form
  places =
      record {
        day = two_digits 0 refl refl (omega arith);
        month = two_digits 3 refl refl (omega arith);
        century = two_digits 6 refl refl (omega arith);
        year = two_digits 8 refl refl (omega arith);
        hour = two_digits 11 refl refl (omega arith);
        minute = two_digits 14 refl refl (omega arith);
        second = two_digits 17 refl refl (omega arith);
      }

-- ---- 19 for the offset comes first, then 24

module _ (s : List ℕ) (offset : ℤ) where
  pub no_offset : is_offset offset ≡ false → read_text s offset ≡ Err (OutsideSet 0)
  unfolding read_text
  no_offset o = simp o

  pub by_form : {t : Bool} → is_offset offset ≡ true → formed form s ≡ t
      → read_text s offset ≡ cond t (pack_of (typed s) offset) (Err NotOfTheForm)
  unfolding read_text
  by_form o e =
      ap (λ (u : Bool). cond u (cond (formed form s) (pack_of (typed s) offset) (Err NotOfTheForm)) (Err (OutsideSet 0))) o
      ∙ ap (λ (u : Bool). cond u (pack_of (typed s) offset) (Err NotOfTheForm)) e
