-- Laws of ending: what leads to each answer.
use Prim.Native.Nat.{ℕ}
use Rattle.std.specs.Prelude.{Ok, Err}
use mathlib.Core.Path.{◌≡◌}
use mathlib.Core.Bool.{true, false, false≢true}
use mathlib.Core.Option.{Option, none, some}
use Rattle.ground_refusal.specs.declared.Refusal.TheVariants.{ImpossibleState, OutsideSet}
use Rattle.rooms_state.specs.State.{fresh_part, possible_of, Network, is_some, with_mine}
use Rattle.rooms_state.specs.declared.Networks.{Networks}
use Rattle.rooms_state.specs.declared.Part.{Part}
use Rattle.rooms_end.specs.Ending.{ended_for, ended_of}

module _ (x : Networks) (bytes : ℕ) where
  pub ends_nowhere : (o : Option Network) → o ≡ none → record { answer = Err (OutsideSet 0); state = x } ≡ ended_of o x bytes
  unfolding ended_of
  ends_nowhere o e = rw e

  pub ends_impossible : (o : Option Network) → is_some o ≡ true → possible_of x bytes ≡ false
      → record { answer = Err ImpossibleState; state = x } ≡ ended_of o x bytes
  unfolding ended_of ended_for is_some
  ends_impossible none t f = absurd (false≢true t)
  ends_impossible (some i) t f = rw f

  pub ends : (o : Option Network) (i : Network) → o ≡ some i → possible_of x bytes ≡ true → (p : Part) → p ≡ fresh_part
      → record { answer = (Ok tt); state = with_mine i x p } ≡ ended_of o x bytes
  unfolding ended_of ended_for
  ends o i e f p g = rw (e, f, g)
