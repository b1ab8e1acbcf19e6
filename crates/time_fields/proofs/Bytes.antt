-- A field and its five bytes give each other back.
use mathlib.Core.Path.{◌≡◌}
use mathlib.Core.List.{[], ◌∷◌}
use Prim.Native.Nat.{ℕ, ◌+◌, ◌*◌, ◌/◌, ◌%◌, ◌^◌, ◌<◌}
use native.Mathlib.Nat.{div-add-mod', mod-add-div', div-div-eq-div-mul}
use native.Mathlib.Omega.{arith}
use Rattle.time_fields.specs.Field.{field_bytes, bytes_field}

-- the byte of f at the weight n, under what stands above it
byte_under : (f n : ℕ) → f / (n * 2 ^ 8) * 2 ^ 8 + f / n % 2 ^ 8 ≡ f / n
byte_under f n = rw (← (div-div-eq-div-mul f n (2 ^ 8))) (div-add-mod' (f / n) (2 ^ 8))

-- five bytes, one under the other, below what is left above them
five_under : (f g h i j above a b c d e r : ℕ)
    → above * 2 ^ 8 + a ≡ j → j * 2 ^ 8 + b ≡ i → i * 2 ^ 8 + c ≡ h → h * 2 ^ 8 + d ≡ g → g * 2 ^ 8 + e ≡ f
    → r + above * 2 ^ 40 ≡ f → a * 2 ^ 32 + b * 2 ^ 24 + c * 2 ^ 16 + d * 2 ^ 8 + e ≡ r
five_under f g h i j above a b c d e r p q s t u v = omega arith

pub bytes_back : (f : ℕ) → bytes_field (field_bytes f) ≡ f % 2 ^ 40
unfolding field_bytes bytes_field
bytes_back f =
    five_under _ _ _ _ _ _ _ _ _ _ _ _
    (byte_under f (2 ^ 32)) (byte_under f (2 ^ 24)) (byte_under f (2 ^ 16)) (byte_under f (2 ^ 8)) (div-add-mod' f (2 ^ 8))
    (mod-add-div' f (2 ^ 40))

pub field_back : (f : ℕ) → f < 2 ^ 40 → bytes_field (field_bytes f) ≡ f
field_back f h = omega (arith, bytes_back f)

module _ (a b c d e : ℕ) (ha : a < 256) (hb : b < 256) (hc : c < 256) (hd : d < 256) (he : e < 256) where
  pub bytes_fit : bytes_field (a ∷ b ∷ c ∷ d ∷ e ∷ []) < 2 ^ 40
  unfolding bytes_field
  bytes_fit = omega arith

  pub field_bytes_back : field_bytes (bytes_field (a ∷ b ∷ c ∷ d ∷ e ∷ [])) ≡ a ∷ b ∷ c ∷ d ∷ e ∷ []
  unfolding field_bytes bytes_field
  field_bytes_back =
      let f = a * 2 ^ 32 + b * 2 ^ 24 + c * 2 ^ 16 + d * 2 ^ 8 + e in
      let first : f / 2 ^ 32 % 2 ^ 8 ≡ a = omega arith in
      let second : f / 2 ^ 24 % 2 ^ 8 ≡ b = omega arith in
      let third : f / 2 ^ 16 % 2 ^ 8 ≡ c = omega arith in
      let fourth : f / 2 ^ 8 % 2 ^ 8 ≡ d = omega arith in
      let fifth : f % 2 ^ 8 ≡ e = omega arith in
      simp (first, second, third, fourth, fifth)
