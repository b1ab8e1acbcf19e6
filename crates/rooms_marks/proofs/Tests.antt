-- Laws of tests: how a test came, and two that say the same.
use mathlib.Core.Path.{◌≡◌, refl, sym, ◌∙◌}
use mathlib.Core.Bool.{Bool, true, false, false≢true}

-- a test with how it came
pub data Seen (b : Bool) : Type 0 where
  yes_is : b ≡ true → Seen b
  no_is : b ≡ false → Seen b

pub seen : (b : Bool) → Seen b
seen true = yes_is refl
seen false = no_is refl

pub never : {A : Type 0} (b : Bool) → b ≡ true → b ≡ false → A
never b p q = absurd (false≢true (sym q ∙ p))

pub same_answer : (a b : Bool) → (a ≡ true → b ≡ true) → (b ≡ true → a ≡ true) → a ≡ b
same_answer true b f g = sym (f refl)
same_answer false true f g = g refl
same_answer false false f g = refl
