-- What a reader has to believe of an order of refusals: it is a list, each refusal with its condition, and the first whose condition holds is given.
use Rattle.std.specs.Prelude.{◌≡◌, Bool, true, false, List, [], ◌∷◌, ◌↔◌}
use Rattle.ground_refusal.specs.declared.Refusal.{Refusal}

infix 68 ◌when◌
-- a line of the list: a refusal with its place, and whether its condition holds
pub data Line : Type 0 where
  ◌when◌ : Refusal → Bool → Line

-- r is given: its condition holds, and that of no line before it
pub data Given : Refusal → List Line → Type 0 where
  here : {r : Refusal} {b : Bool} {lines : List Line} → b ≡ true → Given r (r when b ∷ lines)
  later : {r r' : Refusal} {b : Bool} {lines : List Line} → b ≡ false → Given r lines → Given r (r' when b ∷ lines)

-- no line's condition holds
pub data None : List Line → Type 0 where
  end : None []
  next : {r : Refusal} {b : Bool} {lines : List Line} → b ≡ false → None lines → None (r when b ∷ lines)

-- "given exactly when the list says": refused with r exactly if r is given, and a value is answered exactly if none is
pub record AsListed {A : Type 0} (refused : Refusal → A) (Value : A → Type 0) (lines : List Line) (answer : A) : Type 0 where
  pub refused_exactly : (r : Refusal) → (answer ≡ refused r) ↔ Given r lines
  pub value_exactly : Value answer ↔ None lines
