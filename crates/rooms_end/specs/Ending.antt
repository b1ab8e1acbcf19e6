-- What a reader has to believe of the end of a network's gathering.
use Rattle.std.specs.Prelude.{ℕ, not, if◌then◌else◌, Ok, Err}
use Rattle.std.proofs.Math.Option.{Option, none, some}
use Rattle.ground_refusal.specs.declared.Refusal.TheVariants.{ImpossibleState, OutsideSet}
use Rattle.rooms_state.specs.State.{fresh_part, possible_of, Network, with_mine}
use Rattle.rooms_state.specs.declared.Networks.{Networks}
use Rattle.rooms_end.specs.declared.EndedState.{EndedState}

-- "ending a gathering, begun or not, complete or not, refuses for 19 and 12 only and leaves that network's part fresh": so its rooms are given back
unfoldable pub ended_for : Network → Networks → ℕ → EndedState
ended_for i x bytes =
    if not (possible_of x bytes) then record { answer = Err ImpossibleState; state = x } else
    record { answer = (Ok tt); state = with_mine i x fresh_part }

unfoldable pub ended_of : Option Network → Networks → ℕ → EndedState
ended_of none x bytes = record { answer = Err (OutsideSet 0); state = x }
ended_of (some i) x bytes = ended_for i x bytes
