-- Whether a row fits, and what is to be shown of a feed.
use Prim.Native.Nat.{ℕ, ◌+◌, ◌-◌, ◌≤◌, ◌<◌}
use mathlib.Core.Path.{◌≡◌, refl, sym}
use mathlib.Core.Bool.{Bool, true, false}
use mathlib.Core.List.{List}
use native.Mathlib.Omega.{arith}
use borrow.Author.Tests.{le-leb, lt-leb, leb-true, leb-false}
use lib.Dec.{leb}
use Rattle.teaching_rows.specs.Rows.{length_bytes}
use Rattle.teaching_feed.specs.Feeding.{row_fits, buffer_after, taught_of}
use Rattle.teaching_feed.specs.declared.Taught.{Taught}

module _ (room used n : ℕ) where
  pub fits_not : room < used + (length_bytes + n) → false ≡ row_fits room used n
  unfolding row_fits
  fits_not h = sym (lt-leb _ _ h)

  fits_true : used + (length_bytes + n) ≤ room → true ≡ row_fits room used n
  unfolding row_fits
  fits_true h = sym (le-leb _ _ h)

  pub fits_left : used + length_bytes ≤ room → leb n (room - used - length_bytes) ≡ row_fits room used n
  fits_left h = go (leb n (room - used - length_bytes)) refl
    where
      go : (x : Bool) → leb n (room - used - length_bytes) ≡ x → x ≡ row_fits room used n
      go false e = fits_not (omega (arith, leb-false n (room - used - length_bytes) e))
      go true e = fits_true (omega (arith, leb-true n (room - used - length_bytes) e))

  pub fits_room : row_fits room used n ≡ true → used + (length_bytes + n) ≤ room
  unfolding row_fits
  fits_room e = leb-true _ _ e

-- the answer and the bytes in use, and the buffer, after a feed
abbrev pub Fed : List ℕ → ℕ → ℕ → List ℕ → Taught → List ℕ → Type 0
Fed buffer used store s r after = (r ≡ taught_of buffer used store s) × (after ≡ buffer_after buffer used s)
