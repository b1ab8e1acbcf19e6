-- Of any order, by its lines: an answer that goes through them from the first to the last is refused exactly with the one that is given.
use mathlib.Core.Path.{◌≡◌, refl, sym, ◌∙◌, subst}
use mathlib.Core.Bool.{Bool, true, false}
use mathlib.Core.List.{List, [], ◌∷◌, ◌++◌}
use Rattle.std.specs.Prelude.{if◌then◌else◌}
use Rattle.ground_refusal.specs.declared.Refusal.{Refusal}
use Rattle.promises_orders.specs.Order.{Line, ◌when◌, Given, here, later, None, end, next, AsListed}

-- refusals and values can be told apart in an answer
pub record Told {A : Type 0} (refused : Refusal → A) (Value : A → Type 0) : Type 0 where
  pub same : (r r' : Refusal) → refused r ≡ refused r' → r ≡ r'
  pub apart : (r : Refusal) → Value (refused r) → ⊥

module _ {A : Type 0} (refused : Refusal → A) where
  -- the first refusal whose condition holds, or the value
  unfoldable pub outcome : List Line → A → A
  outcome [] value = value
  outcome (r when b ∷ lines) value = if b then refused r else outcome lines value

  pub outcome_given : (lines : List Line) (value : A) (r : Refusal) → Given r lines → outcome lines value ≡ refused r
  unfolding outcome
  outcome_given [] value r x = elim x [ ]
  outcome_given (r' when b ∷ lines) value r (here e) = rw e
  outcome_given (r' when b ∷ lines) value r (later e g) = rw e (outcome_given lines value r g)

  pub outcome_none : (lines : List Line) (value : A) → None lines → outcome lines value ≡ value
  unfolding outcome
  outcome_none [] value end = refl
  outcome_none (r when b ∷ lines) value (next e n) = rw e (outcome_none lines value n)

  -- what stands behind the lines counts only where none of them holds
  pub outcome_behind : (lines : List Line) {value value' : A} → (None lines → value ≡ value') → outcome lines value ≡ outcome lines value'
  unfolding outcome
  outcome_behind [] f = f end
  outcome_behind (r when true ∷ lines) f = refl
  outcome_behind (r when false ∷ lines) f = outcome_behind lines (λ n. f (next refl n))

-- an outcome told in other words
pub outcome_told : {A B : Type 0} (tell : A → B) (refused : Refusal → A) (refused' : Refusal → B) → ((r : Refusal) → tell (refused r) ≡ refused' r)
    → (lines : List Line) (value : A) → tell (outcome refused lines value) ≡ outcome refused' lines (tell value)
unfolding outcome
outcome_told tell refused refused' f [] value = refl
outcome_told tell refused refused' f (r when true ∷ lines) value = f r
outcome_told tell refused refused' f (r when false ∷ lines) value = outcome_told tell refused refused' f lines value

-- none of the lines holds: not the first one, none of the rest, none of either part
pub first_not : {r : Refusal} {b : Bool} {lines : List Line} → None (r when b ∷ lines) → b ≡ false
first_not (next e n) = e

pub rest_not : {r : Refusal} {b : Bool} {lines : List Line} → None (r when b ∷ lines) → None lines
rest_not (next e n) = n

pub none_append : (first rest : List Line) → None (first ++ rest) → None first × None rest
none_append [] rest n = (end, n)
none_append (r when b ∷ first) rest (next e n) = let p = none_append first rest n in (next e p.0, p.1)

-- of some lines, one is given or none is
pub data Decided (lines : List Line) : Type 0 where
  one : (r : Refusal) → Given r lines → Decided lines
  none : None lines → Decided lines

pub decided : (lines : List Line) → Decided lines
decided [] = none end
decided (r when true ∷ lines) = one r (here refl)
decided (r when false ∷ lines) = go (decided lines)
  where
    go : Decided lines → Decided (r when false ∷ lines)
    go (one r' g) = one r' (later refl g)
    go (none n) = none (next refl n)

module _ {A : Type 0} (refused : Refusal → A) (Value : A → Type 0) (told : Told refused Value) where
  -- an answer that has what each line and their end ask for is given as the lines say
  pub as_listed : (lines : List Line) (answer : A) → ((r : Refusal) → Given r lines → answer ≡ refused r) → (None lines → Value answer)
      → AsListed refused Value lines answer
  as_listed lines answer gives ends =
      record {
        refused_exactly = λ r. (only r (decided lines), gives r);
        value_exactly = (value_only (decided lines), ends);
      }
    where
      only : (r : Refusal) → Decided lines → answer ≡ refused r → Given r lines
      only r (one r' g) e = subst (λ (x : Refusal). Given x lines) (told.same r' r (sym (gives r' g) ∙ e)) g
      only r (none n) e = absurd (told.apart r (subst Value e (ends n)))

      value_only : Decided lines → Value answer → None lines
      value_only (one r g) v = absurd (told.apart r (subst Value (gives r g) v))
      value_only (none n) v = n

  -- one that goes through the lines to a value
  pub by_lines : (lines : List Line) (value : A) → Value value → AsListed refused Value lines (outcome refused lines value)
  by_lines lines value v =
      as_listed lines (outcome refused lines value) (outcome_given refused lines value) (λ n. subst Value (sym (outcome_none refused lines value n)) v)
