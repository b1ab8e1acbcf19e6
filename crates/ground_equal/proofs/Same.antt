-- Laws of the comparison of two byte strings: that it is std's, and what its answer says.
use Prim.Native.Nat.{ℕ}
use mathlib.Core.Path.{◌≡◌, refl, ap, ap₂}
use mathlib.Core.Bool.{Bool, true, false, ◌&&◌, false≢true}
use mathlib.Core.List.{List, [], ◌∷◌}
use borrow.Author.Tests.{eq-eqb, eqb-true}
use lib.Dec.{eqb}
use lib.Pointwise.{pointwise}
use lib.ListN.{get_or}
use Rattle.std.specs.Prelude.{if◌then◌else◌}
use Rattle.ground_equal.specs.Same.{same_bytes}

-- what std says of `==` at two slices of bytes
pub same_pointwise : (a b : List ℕ) → pointwise eqb a b ≡ same_bytes a b
unfolding same_bytes
same_pointwise [] [] = refl
same_pointwise [] (y ∷ ys) = refl
same_pointwise (x ∷ xs) [] = refl
same_pointwise (x ∷ xs) (y ∷ ys) = go (eqb x y) (same_pointwise xs ys)
  where
    go : (t : Bool) → pointwise eqb xs ys ≡ same_bytes xs ys → t && pointwise eqb xs ys ≡ (if t then same_bytes xs ys else false)
    go true e = e
    go false e = refl

-- ---- what it says

pub same_refl : (a : List ℕ) → same_bytes a a ≡ true
unfolding same_bytes
same_refl [] = refl
same_refl (x ∷ xs) = rw (eq-eqb x x refl) (same_refl xs)

pub same_is : (a b : List ℕ) → same_bytes a b ≡ true → a ≡ b
unfolding same_bytes
same_is [] [] e = refl
same_is [] (y ∷ ys) e = absurd (false≢true e)
same_is (x ∷ xs) [] e = absurd (false≢true e)
same_is (x ∷ xs) (y ∷ ys) e = go (same_is xs ys) (eqb x y) refl e
  where
    go : (same_bytes xs ys ≡ true → xs ≡ ys) → (t : Bool) → eqb x y ≡ t → (if t then same_bytes xs ys else false) ≡ true → (x ∷ xs) ≡ (y ∷ ys)
    go f true p e = ap₂ ◌∷◌ (eqb-true x y p) (f e)
    go f false p e = absurd (false≢true e)

-- bytes that differ at one place are not the same
pub same_differs : (a b : List ℕ) (i : ℕ) → (get_or a i 0 ≡ get_or b i 0 → ⊥) → false ≡ same_bytes a b
same_differs a b i h = go (same_bytes a b) refl
  where
    go : (t : Bool) → same_bytes a b ≡ t → false ≡ t
    go true e = absurd (h (ap (λ l. get_or l i 0) (same_is a b e)))
    go false e = refl
