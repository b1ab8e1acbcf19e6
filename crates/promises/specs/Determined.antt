-- 01, 'Strength of the statements': a promise "determines the answer, state, store, output and record list for every input, refused ones too".
use Rattle.std.specs.Prelude.{◌≡◌}

-- any two results that the promise allows are equal
abbrev pub Determined : {R : Type 0} → (R → Type 0) → Type 0
Determined {R} P = (r r' : R) → P r → P r' → r ≡ r'

-- the same of an answer and what is left in a buffer
abbrev pub Determined₂ : {R S : Type 0} → (R → S → Type 0) → Type 0
Determined₂ {R} {S} P = (r r' : R) (s s' : S) → P r s → P r' s' → (r ≡ r') × (s ≡ s')

-- and of an answer, a state and a store
abbrev pub Determined₃ : {R S T : Type 0} → (R → S → T → Type 0) → Type 0
Determined₃ {R} {S} {T} P = (r r' : R) (s s' : S) (t t' : T) → P r s t → P r' s' t' → (r ≡ r') × (s ≡ s') × (t ≡ t')
