-- What a reader has to believe of packing: the order of its refusals, the state and the store after it.
use Rattle.std.specs.Prelude.{ℕ, List, length, Result, Ok, Err}
use Rattle.ground_refusal.specs.declared.Refusal.{Refusal}
use Rattle.gathering_state.specs.State.{fresh_state}
use Rattle.gathering_state.specs.declared.Gathering.{Gathering}
use Rattle.gathering_hand_out.specs.Handing.{body_held, complete_of, out_by}
use Rattle.gathering_pack.specs.declared.Packed.{Packed}

-- ---- the answer

-- a body of n bytes: where all of a table is there, it has its room in the store
unfoldable pub packed_by : Result Unit Refusal → ℕ → Result ℕ Refusal
packed_by (Err r) n = Err r
packed_by (Ok tt) n = Ok n

-- "Refusals: 12, 13, 10, 11, 13 in handing-out order, with no 21"
unfoldable pub packed_of : Gathering → List ℕ → Result ℕ Refusal
packed_of g store = packed_by (complete_of g (length store)) (length (body_held g store))

-- ---- the state and the store

-- "ending with the joined body there, its length, and a fresh state"; a refused packing changes nothing
unfoldable pub state_by : Gathering → Result ℕ Refusal → Gathering
state_by g (Err r) = g
state_by g (Ok n) = fresh_state

-- the answer and the state after packing
unfoldable pub packing_of : Gathering → List ℕ → Packed
packing_of g store = record { answer = packed_of g store; state = state_by g (packed_of g store) }

-- "moves the held payloads together to the front of the store [..]; bytes beyond the body keep their values"
unfoldable pub store_packed : Gathering → List ℕ → List ℕ
store_packed g store = out_by (body_held g store) store (packed_of g store)
