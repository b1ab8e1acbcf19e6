-- What a reader has to believe of a run of calls: each keeps to the unpacker's contract, over the state's bytes that the call before it left.
use Rattle.std.specs.Prelude.{ℕ, List, [], ◌∷◌, ◌++◌, ◌≡◌, length, take, Ok}
use Rattle.packet_memory.specs.State.{state_bytes}
use Rattle.packet_reader.specs.Answers.{verdict_for, state_after, Unpacks}

-- one call, from the state's bytes s: n bytes stand at the start of an output of `room` bytes
pub record Call (room : ℕ) (s p : List ℕ) (n : ℕ) (left written : List ℕ) : Type 0 where
  pub out : List ℕ
  pub size : length out ≡ room
  pub state : length s ≡ state_bytes
  pub kept : Unpacks (verdict_for s p out) (state_after s p out) out (Ok n) left written

-- a call for each packet, and all the bytes that they gave, one after the other
abbrev pub Served : ℕ → List ℕ → List (List ℕ) → List ℕ → Type 0
Served room s [] got = got ≡ []
Served room s (p ∷ ps) got =
    (n : ℕ) × (left : List ℕ) × (written : List ℕ) × (more : List ℕ) × Call room s p n left written × Served room left ps more
    × (got ≡ take n written ++ more)
