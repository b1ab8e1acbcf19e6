-- Laws of tests: several that hold together, one that a callee made, and what an answer chosen by a test says of it.
use mathlib.Core.Path.{◌≡◌, refl}
use mathlib.Core.Bool.{Bool, true, false, not, ◌&&◌, cond}
use lib.Dec.{T}
use Rattle.std.specs.Prelude.{if◌then◌else◌}

-- ---- tests that hold together

pub both : (a b : Bool) → a && b ≡ true → (a ≡ true) × (b ≡ true)
both true b e = (refl, e)
both false b e = (cc, cc)

pub and_of : {a b : Bool} → a ≡ true → b ≡ true → (a && b) ≡ true
and_of p q = cc

pub both_hold : (a b : Bool) → T (a && b) → T a × T b
both_hold true b t = (tt, t)
both_hold false b t = absurd t

pub all_hold : (a b c d e f : Bool) → T (a && b && c && d && e && f) → T a × T b × T c × T d × T e × T f
all_hold a b c d e f t =
    let five = both_hold (a && b && c && d && e) f t in
    let four = both_hold (a && b && c && d) e five.0 in
    let three = both_hold (a && b && c) d four.0 in
    let two = both_hold (a && b) c three.0 in
    let one = both_hold a b two.0 in
    (one.0, one.1, two.1, three.1, four.1, five.1)

-- a test that can't hold answers false
pub refuted : (b : Bool) → (b ≡ true → ⊥) → false ≡ b
refuted true f = absurd (f refl)
refuted false f = refl

-- ---- a test that a callee made: its answer r is the test d, and was found not to hold, or not to fail

pub unmet : (r : Bool) {d : Bool} → r ≡ d → not r ≡ true → d ≡ false
unmet true e n = cc
unmet false e n = cc

pub met : (r : Bool) {d : Bool} → r ≡ d → not r ≡ false → d ≡ true
met true e n = cc
met false e n = cc

-- ---- an answer chosen by a test

module _ {A : Type 0} where
  pub fails : (b : Bool) (x y : A) → (T b → ⊥) → cond b x y ≡ y
  fails true x y h = absurd (h tt)
  fails false x y h = refl

  pub picked : (b : Bool) (x y z : A) → cond b x y ≡ z → (y ≡ z → ⊥) → T b × (x ≡ z)
  picked true x y z e h = (tt, e)
  picked false x y z e h = absurd (h e)

  -- where a refusal would come first, what is no refusal came past it
  pub past : (b : Bool) (refusal x y : A) → (refusal ≡ y → ⊥) → (if b then refusal else x) ≡ y → (b ≡ false) × (x ≡ y)
  past true refusal x y f e = absurd (f e)
  past false refusal x y f e = (refl, e)
