-- An answer to a feed that goes through its lines: refused exactly as the lines say; else held already or taken, exactly by one test.
use Prim.Native.Nat.{ℕ}
use mathlib.Core.Path.{◌≡◌, refl, sym, ◌∙◌}
use mathlib.Core.Bool.{Bool, true, false}
use mathlib.Core.List.{List}
use mathlib.Core.Logic.{◌↔◌}
use native.Mathlib.Omega.{arith}
use Rattle.std.specs.Prelude.{if◌then◌else◌, Result, Ok, Err}
use Rattle.ground_refusal.specs.declared.Refusal.{Refusal}
use Rattle.gathering_feed.specs.declared.Answer.{Answer}
use Rattle.gathering_feed.specs.declared.Answer.TheVariants.{Taken, HeldAlready}
use Rattle.promises_orders.specs.Order.{Line, Given, None, AsListed}
use Rattle.promises_orders.proofs.Order.{outcome, by_lines, Decided, one, none, decided}

-- what is answered where no line holds
abbrev pub fed_value : Bool → Result Answer Refusal
fed_value held = if held then (Ok HeldAlready) else (Ok Taken)

module _ (lines : List Line) (held : Bool) (answer : Result Answer Refusal) (is : answer ≡ outcome Err lines (fed_value held)) where
  listed : AsListed Err (λ a. a ≡ fed_value held) lines answer
  listed = rw is (by_lines Err _ (record { same = λ r r' e. cc; apart = λ r. apart r held }) lines (fed_value held) refl)
    where
      apart : (r : Refusal) (held : Bool) → Err r ≡ fed_value held → ⊥
      apart r true e = let z : ◌≡◌ {A = ℕ} 0 1 = cc in omega arith
      apart r false e = let z : ◌≡◌ {A = ℕ} 0 1 = cc in omega arith

  -- an answer that is no refusal is the value behind the lines
  answered : (a : Result Answer Refusal) → ((r : Refusal) → Err r ≡ a → ⊥) → answer ≡ a → None lines × (fed_value held ≡ a)
  answered a apart e = go (decided lines)
    where
      go : Decided lines → None lines × (fed_value held ≡ a)
      go (one r given) = absurd (apart r (sym ((listed.refused_exactly r).1 given) ∙ e))
      go (none n) = (n, sym (listed.value_exactly.1 n) ∙ e)

  pub fed_refused : (r : Refusal) → (answer ≡ Err r) ↔ Given r lines
  fed_refused = listed.refused_exactly

  pub fed_taken : (answer ≡ Ok Taken) ↔ (None lines × (held ≡ false))
  fed_taken = (
    λ e. let a = answered (Ok Taken) (λ r q. let z : ◌≡◌ {A = ℕ} 0 1 = cc in omega arith) e in (a.0, new held a.1),
    λ n. listed.value_exactly.1 n.0 ∙ rw n.1,
  )
    where
      new : (held : Bool) → fed_value held ≡ (Ok Taken) → held ≡ false
      new true e = let z : ◌≡◌ {A = ℕ} 0 1 = cc in absurd (omega arith)
      new false e = refl

  pub fed_held : (answer ≡ Ok HeldAlready) ↔ (None lines × (held ≡ true))
  fed_held = (
    λ e. let a = answered (Ok HeldAlready) (λ r q. let z : ◌≡◌ {A = ℕ} 0 1 = cc in omega arith) e in (a.0, repeated held a.1),
    λ n. listed.value_exactly.1 n.0 ∙ rw n.1,
  )
    where
      repeated : (held : Bool) → fed_value held ≡ (Ok HeldAlready) → held ≡ true
      repeated true e = refl
      repeated false e = let z : ◌≡◌ {A = ℕ} 0 1 = cc in absurd (omega arith)
