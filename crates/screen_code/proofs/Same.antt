-- Laws of the comparison: what its answer says, and how std compares; and the test for decimal digits.
use Prim.Native.Nat.{ℕ, ◌+◌, ◌-◌}
use mathlib.Core.Path.{◌≡◌, refl, sym, ap, ap₂, ◌∙◌}
use mathlib.Core.Bool.{Bool, true, false, ◌&&◌, false≢true}
use mathlib.Core.List.{List, [], ◌∷◌}
use native.Mathlib.Omega.{arith}
use borrow.Author.Tests.{eq-eqb, ne_eqb, eqb-true}
use lib.Dec.{eqb, ltb}
use lib.ListN.{length, take, drop}
use Rattle.std.specs.Prelude.{◌==◌}
use Rattle.std.specs.List.{list_all}
use Rattle.std.specs.Cmp.Lexicographic.{pointwise}
use Rattle.body_formats.specs.Format.{decimal}
use Rattle.screen_code.specs.Code.{is_code, same, same_at}

pub both : (a b : Bool) → a && b ≡ true → (a ≡ true) × (b ≡ true)
both true b e = (refl, e)
both false b e = (cc, cc)

-- ---- what it says

pub same_refl : (a : List ℕ) → same a a ≡ true
unfolding same
same_refl [] = refl
same_refl (x ∷ xs) = rw (eq-eqb x x refl) (same_refl xs)

pub same_is : (a b : List ℕ) → same a b ≡ true → a ≡ b
unfolding same
same_is [] [] e = refl
same_is [] (y ∷ ys) e = absurd (false≢true e)
same_is (x ∷ xs) [] e = absurd (false≢true e)
same_is (x ∷ xs) (y ∷ ys) e =
    let f = both (eqb x y) (same xs ys) e in
    ap₂ ◌∷◌ (eqb-true x y f.0) (same_is xs ys f.1)

-- as std compares them
same_slices : (a b : List ℕ) → pointwise (λ x y. x == y) a b ≡ same a b
unfolding same
same_slices [] [] = refl
same_slices [] (y ∷ ys) = refl
same_slices (x ∷ xs) [] = refl
same_slices (x ∷ xs) (y ∷ ys) = rw (same_slices xs ys)

-- of twelve bytes that stand at p
same_here : (s : List ℕ) (p : ℕ) (own : List ℕ) → same (take (p + 12 - p) (drop p s)) own ≡ same_at s p own
unfolding same_at
same_here s p own = let z : p + 12 - p ≡ 12 = omega arith in rw z

-- what std answers of them
pub told_here : (s : List ℕ) (p : ℕ) (own l : List ℕ) (r : Bool) → r ≡ pointwise (λ x y. x == y) (take (p + 12 - p) (drop p s)) l → l ≡ own → same_at s p own ≡ r
told_here s p own l r e f =
    sym (same_here s p own) ∙ sym (same_slices (take (p + 12 - p) (drop p s)) own)
    ∙ ap (pointwise (λ x y. x == y) (take (p + 12 - p) (drop p s))) (sym f) ∙ sym e

-- ---- digits

pub code_long : (code : List ℕ) → is_code code ≡ true → length code ≡ 23
unfolding is_code
code_long code e = eqb-true (length code) 23 (both (eqb (length code) 23) (decimal code) e).0

pub code_decimal : (code : List ℕ) → is_code code ≡ true → decimal code ≡ true
unfolding is_code
code_decimal code e = (both (eqb (length code) 23) (decimal code) e).1

pub code_short : (code : List ℕ) → (length code ≡ 23 → ⊥) → false ≡ is_code code
unfolding is_code
code_short code n = rw (ne_eqb (length code) 23 n)

digits_all : (xs : List ℕ) → list_all (λ d. ltb d 10) xs ≡ decimal xs
unfolding decimal
digits_all [] = refl
digits_all (x ∷ xs) = rw (digits_all xs)

pub code_digits : (code : List ℕ) → length code ≡ 23 → list_all (λ d. ltb d 10) code ≡ is_code code
unfolding is_code
code_digits code l = digits_all code ∙ rw (eq-eqb (length code) 23 l)
