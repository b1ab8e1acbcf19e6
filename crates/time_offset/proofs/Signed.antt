-- Whole numbers as differences of two numbers from 0, so that linear arithmetic proves what is said of them; and what the machine's bits give back of them.
use mathlib.Core.Path.{◌≡◌, refl, sym, ap, ◌∙◌, subst}
use mathlib.Core.Bool.{Bool, true, false, cond, true≢false}
use Prim.Native.Nat.{ℕ, zero, suc, ◌+◌, ◌-◌, ◌≤◌, ◌<◌, ◌^◌}
use native.Mathlib.Omega.{arith}
use lib.Dec.{T, ltb}
use borrow.Author.Tests.{ltb-true, ltb-false}
use lib.IntN.{ℤ, pos, negsuc, ◌+ℤ◌, neg_ℤ, sub_ℕ, nat_abs}
use lib.Signed.{lt_z, mag, non_neg}
use mir.Syntax.{Width}
use mir.Val.{Fits, SFits, to_z, of_z, bits, hbits}
use mir.Facts.{to_z-of_z}

-- z is up z less down z
abbrev pub up : ℤ → ℕ
up (pos n) = n
up (negsuc n) = 0

abbrev pub down : ℤ → ℕ
down (pos n) = 0
down (negsuc n) = suc n

-- z is the difference of two numbers
pub record Difference (z : ℤ) (more less : ℕ) : Type 0 where
  pub is : up z + less ≡ down z + more

pub same : (x y : ℤ) {more less : ℕ} → Difference x more less → Difference y more less → x ≡ y
same (pos a) (pos b) p q = ap pos (omega arith)
same (pos a) (negsuc b) p q = absurd (omega arith)
same (negsuc a) (pos b) p q = absurd (omega arith)
same (negsuc a) (negsuc b) p q = ap negsuc (omega arith)

-- of a difference of two numbers, of a sum and of an opposite
pub difference : (a b : ℕ) → Difference (sub_ℕ a b) a b
difference a b = by (ltb a b) refl
  where
    by : (t : Bool) → ltb a b ≡ t → Difference (cond t (negsuc (b - suc a)) (pos (a - b))) a b
    by true e = record { is = omega (arith, ltb-true a b e) }
    by false e = record { is = omega (arith, ltb-false a b e) }

pub sum : (x y : ℤ) → Difference (x +ℤ y) (up x + up y) (down x + down y)
sum (pos a) (pos b) = record { is = omega arith }
sum (negsuc a) (negsuc b) = record { is = omega arith }
sum (pos a) (negsuc b) = record { is = omega (arith, difference a (suc b)) }
sum (negsuc a) (pos b) = record { is = omega (arith, difference b (suc a)) }

pub opposite : (z : ℤ) → Difference (neg_ℤ z) (down z) (up z)
opposite (pos zero) = record { is = omega arith }
opposite (pos (suc n)) = record { is = omega arith }
opposite (negsuc n) = record { is = omega arith }

pub parts : (z : ℤ) → (up z ≤ mag z) × (down z ≤ suc (mag z))
parts (pos n) = omega arith
parts (negsuc n) = omega arith

-- a difference of numbers below a bound is of a size below it
pub size : (z : ℤ) {more less bound : ℕ} → Difference z more less → more < bound → less ≤ bound → mag z < bound
size (pos n) d h k = omega arith
size (negsuc n) d h k = omega arith

-- x is y, and fits: so its bits give y back
pub record Known (w : Width) (x y : ℤ) : Type 0 where
  pub is : x ≡ y
  pub fits : SFits w x
  pub back : to_z w (of_z w x) ≡ y
  pub small : mag y < 2 ^ hbits w

pub given : {w : Width} {x y : ℤ} → SFits w x → x ≡ y → Known w x y
given {w} f e =
    record { is = e; fits = f; back = to_z-of_z f ∙ e; small = subst (λ (z : ℤ). mag z < 2 ^ hbits w) e f.sfits }

pub known : {w : Width} {x y : ℤ} → x ≡ y → mag y < 2 ^ hbits w → Known w x y
known {w} e small = given (subst (SFits w) (sym e) (record { sfits = small })) e

-- an operation on what the bits give back
pub then : {w : Width} {x y z : ℤ} → Known w x y → (f : ℤ → ℤ) → f y ≡ z → mag z < 2 ^ hbits w
    → Known w (f (to_z w (of_z w x))) z
then k f e small = known (ap f k.back ∙ e) small

-- a number from 0 that is cast to an unsigned one
pub unsigned : {w w' : Width} {x : ℤ} {n : ℕ} → Known w x (pos n) → n < 2 ^ bits w'
    → T (non_neg (to_z w (of_z w x))) × Fits w' (nat_abs (to_z w (of_z w x)))
unsigned {w} {w'} k small =
    subst (λ (y : ℤ). T (non_neg y) × Fits w' (nat_abs y)) (sym k.back) (tt, record { fits = small })

-- a number's sign, from the test of its bits
below : (z : ℤ) → lt_z z (pos 0) ≡ true → (k : ℕ) × (z ≡ negsuc k)
below (pos a) e = absurd (omega (arith, ltb-true a 0 e))
below (negsuc a) e = (a, refl)

not_below : (z : ℤ) → lt_z z (pos 0) ≡ false → (k : ℕ) × (z ≡ pos k)
not_below (pos a) e = (a, refl)
not_below (negsuc a) e = absurd (true≢false e)

module _ (w : Width) (z : ℤ) (f : SFits w z) where
  pub known_below : lt_z (to_z w (of_z w z)) (pos 0) ≡ true → (k : ℕ) × Known w z (negsuc k)
  known_below e = let b = below z (ap (λ (y : ℤ). lt_z y (pos 0)) (sym (to_z-of_z f)) ∙ e) in (b.0, given f b.1)

  pub known_from_0 : lt_z (to_z w (of_z w z)) (pos 0) ≡ false → (k : ℕ) × Known w z (pos k)
  known_from_0 e = let b = not_below z (ap (λ (y : ℤ). lt_z y (pos 0)) (sym (to_z-of_z f)) ∙ e) in (b.0, given f b.1)
