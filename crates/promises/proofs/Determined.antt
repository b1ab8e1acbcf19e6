-- An equation for each result determines the results.
use mathlib.Core.Path.{◌≡◌, sym, ap, ◌∙◌}
use Rattle.promises.specs.Determined.{Determined, Determined₂, Determined₃}

pub one : {R : Type 0} {a : R} → Determined (λ r. r ≡ a)
one r r' e e' = e ∙ sym e'

pub two : {R S : Type 0} {a : R} {b : S} → Determined₂ (λ r s. (r ≡ a) × (s ≡ b))
two r r' s s' e e' = (e.0 ∙ sym e'.0, e.1 ∙ sym e'.1)

-- what is left in the buffer may be told by the answer: the bytes after so many stay
pub following : {R S : Type 0} {a : R} (b : R → S) → Determined₂ (λ r s. (r ≡ a) × (s ≡ b r))
following b r r' s s' e e' = (e.0 ∙ sym e'.0, e.1 ∙ (ap b (e.0 ∙ sym e'.0) ∙ sym e'.1))

pub three : {R S T : Type 0} {a : R} {b : S} {c : T} → Determined₃ (λ r s t. (r ≡ a) × (s ≡ b) × (t ≡ c))
three r r' s s' t t' e e' = (e.0 ∙ sym e'.0, e.1 ∙ sym e'.1, e.2 ∙ sym e'.2)
