-- What a reader has to believe of a glance at a body: what it takes for good is found by its format. What it does not take for good may be good all the
-- same: then the body is walked through, field by field, which tells the rest.
use Rattle.std.specs.Prelude.{ℕ, ◌≤◌, ◌≡◌, List, Bool, true, length}
use Rattle.body_formats.specs.Reading.{found}
use Rattle.body_formats.specs.Format.{Format}

-- F finds a in the bytes of the body s from p to q, in each part that they lie in
pub record Reads {A : Type 0} (F : Format A) (s : List ℕ) (p : ℕ) (a : A) (q : ℕ) : Type 0 where
  pub forward : p ≤ q
  pub here : (l : ℕ) → q ≤ l → l ≤ length s → F.parse s l p ≡ found a q

-- F finds a in the bytes from p on, and they fill the part that ends at l
pub record Fills {A : Type 0} (F : Format A) (s : List ℕ) (l p : ℕ) (a : A) : Type 0 where
  pub whole : F.parse s l p ≡ found a l

-- a glance at the bytes from p to q: what it takes for good, F finds
abbrev pub Good : {A : Type 0} → Format A → List ℕ → ℕ → ℕ → Bool → Type 0
Good {A} F s p q good = good ≡ true → (a : A) × Reads F s p a q

-- a glance at the part from p to l: what it takes for good, F finds, and no byte is left
abbrev pub Filled : {A : Type 0} → Format A → List ℕ → ℕ → ℕ → Bool → Type 0
Filled {A} F s l p good = good ≡ true → (a : A) × Fills F s l p a
