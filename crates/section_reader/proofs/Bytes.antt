-- Numbers in two and in four bytes, a bool in one, and bytes stored in one piece.
use Prim.Native.Nat.{ℕ, ◌/◌, ◌%◌}
use borrow.Rule.Slice.PartMut.{put_mid}
use mathlib.Core.List.{List, [], ◌∷◌, append_assoc}
use mathlib.Core.Bool.{Bool, true, false}
use mathlib.Core.Path.{◌≡◌, refl, ap}
use native.Mathlib.Nat.{div-one}
use lib.ListN.{length}
use lib.Seq.{drop-drop}
use Rattle.std.specs.Int.{from_bool}
use Rattle.crc.specs.Crc.{big_endian, digit}
use Rattle.ground_placing.specs.Placed.{placed}

last_byte : (n : ℕ) → big_endian 1 n ≡ n % 256 ∷ []
unfolding big_endian
last_byte n = ap (λ (x : ℕ). x % 256 ∷ []) (div-one n)

pub two_bytes : (n : ℕ) → big_endian 2 n ≡ n / 256 % 256 ∷ n % 256 ∷ []
unfolding big_endian
two_bytes n = ap (λ (l : List ℕ). n / 256 % 256 ∷ l) (last_byte n)

pub four_bytes : (n : ℕ) → big_endian 4 n ≡ n / 16777216 % 256 ∷ n / 65536 % 256 ∷ n / 256 % 256 ∷ n % 256 ∷ []
unfolding big_endian
four_bytes n = ap (λ (l : List ℕ). n / 16777216 % 256 ∷ n / 65536 % 256 ∷ n / 256 % 256 ∷ l) (last_byte n)

-- a piece of d with other bytes in it is d with those bytes at their place
pub placed_part : (d : List ℕ) (at k : ℕ) {t : List ℕ} (s : List ℕ) → t ≡ s → k ≡ length s → put_mid at k d t ≡ placed d at s
unfolding placed
placed_part d at k s e f = rw (e, f) (simp (append_assoc, drop-drop))

-- a bool as a number is its digit
pub digit_is : (b : Bool) → from_bool b ≡ digit b
unfolding digit
digit_is true = refl
digit_is false = refl
