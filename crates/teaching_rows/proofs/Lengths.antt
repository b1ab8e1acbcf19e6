-- Laws of the eight bytes of a length: a number of eight bytes, high byte first, as std reads and writes it.
use Prim.Native.Nat.{ℕ, zero, suc, ◌+◌, ◌*◌, ◌≤◌}
use mathlib.Core.List.{List}
use mathlib.Core.Path.{◌≡◌, refl, sym, ap, ap₂, ◌∙◌}
use native.Mathlib.Omega.{arith}
use native.Mathlib.Nat.{add_assoc, add-zero, div-div-eq-div-mul}
use lib.ListN.{get_or, take, drop}
use lib.Seq.{get_or-take, get_or-drop}
use Rattle.std.specs.Int.{w64, from_be_bytes, to_be_bytes}
use Rattle.body_formats.specs.Format.{number_at, bytes_of}
use Rattle.teaching_rows.specs.Rows.{length_bytes, length_in}

-- ---- read

number_drop : (s : List ℕ) (at p w : ℕ) → number_at (drop at s) p w ≡ number_at s (at + p) w
unfolding number_at
number_drop s at p zero = refl
number_drop s at p (suc w) =
    ap₂ (λ a b. a * 256 + b) (number_drop s at p w) (get_or-drop at s (p + w) 0 ∙ ap (λ k. get_or s k 0) (sym (add_assoc at p w)))

-- a number that stands within a front of the bytes is the same there
pub number_take : (s : List ℕ) (upto p w : ℕ) → p + w ≤ upto → number_at (take upto s) p w ≡ number_at s p w
unfolding number_at
number_take s upto p zero h = refl
number_take s upto p (suc w) h =
    ap₂ (λ a b. a * 256 + b) (number_take s upto p w (omega arith)) (get_or-take upto s (p + w) 0 (omega arith))

-- the length that stands at a place
pub length_here : (s : List ℕ) (at : ℕ) → number_at s at length_bytes ≡ length_in (drop at s)
unfolding length_in
length_here s at = sym (number_drop s at 0 length_bytes ∙ ap (λ p. number_at s p length_bytes) (add-zero at))

be_number : (bytes : List ℕ) → from_be_bytes w64 bytes ≡ number_at bytes 0 length_bytes
unfolding number_at
be_number bytes = omega arith

-- the length that begins some bytes, read from the first eight
pub length_read : (b : List ℕ) → from_be_bytes w64 (take length_bytes b) ≡ length_in b
unfolding length_in
length_read b = be_number (take length_bytes b) ∙ number_take b length_bytes 0 length_bytes (omega arith)

-- ---- written

pub length_written : (n : ℕ) → to_be_bytes w64 n ≡ bytes_of length_bytes n
unfolding bytes_of
length_written n = simp div-div-eq-div-mul
