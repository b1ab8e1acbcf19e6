-- What a reader has to believe of two networks over one store: their parts, the rooms of the store, and which states are possible.
use Rattle.std.specs.Prelude.{ℕ, ◌+◌, ◌-◌, ◌*◌, ◌/◌, ◌≤◌, min, Bool, true, false, ◌&&◌, List, [], ◌∷◌, eqb, leb, ltb, length, get_or, replicate, if◌then◌else◌}
use Rattle.std.proofs.Math.Option.{Option, none, some}
use Rattle.ground_numbers.specs.Sizes.{payload_most}
use Rattle.gathering_state.specs.Lists.{part}
use Rattle.gathering_state.specs.State.{fresh_state, possible_of as gathering_possible}
use Rattle.rooms_marks.specs.Rooms.{none_twice}
use Rattle.rooms_state.specs.declared.Part.{Part}
use Rattle.rooms_state.specs.declared.Networks.{Networks}

-- ---- the fresh ones

-- a network's part while nothing is begun: "leaves that network's part fresh"
unfoldable pub fresh_part : Part
fresh_part = record { gathering = fresh_state; rooms = replicate 256 0 }

-- the state at the start, over a store of so many bytes
unfoldable pub fresh_networks : ℕ → Networks
fresh_networks bytes = record { bytes = bytes; one = fresh_part; two = fresh_part }

-- ---- the rooms of a store

-- "Divide the store into rooms of 4,084 bytes, at most 512": "the smaller of 512 and the whole rooms in the store's length"
unfoldable pub rooms_in : ℕ → ℕ
rooms_in bytes = min 512 (bytes / payload_most)

-- where room r begins, of the rooms 1 to n
unfoldable pub room_place : ℕ → ℕ
room_place r = (r - 1) * payload_most

-- where the payload of number k stands in the store, if k is held: "01's fixed place of number k in the store doesn't hold here"
unfoldable pub room_at : List ℕ → ℕ → ℕ
room_at rooms k = room_place (get_or rooms k 0)

-- that payload
unfoldable pub room_payload : Part → List ℕ → ℕ → List ℕ
room_payload p store k = part store (room_at p.rooms k) (get_or p.gathering.held k 0 - 1)

-- what the inner functions ask for: each held payload lies in the store
pub record InRooms (held rooms store : List ℕ) : Type 0 where
  pub within : (k : ℕ) → room_at rooms k + (get_or held k 0 - 1) ≤ length store

-- ---- possible states

-- "a held number has no room of the store, an unheld one has a room": neither is so. There are n rooms, 1 to n.
unfoldable pub pair_test : ℕ → ℕ → ℕ → Bool
pair_test n h r = if eqb h 0 then eqb r 0 else ltb 0 r && leb r n

-- so for each number and its room
unfoldable pub matched : ℕ → List ℕ → List ℕ → Bool
matched n [] rs = true
matched n (h ∷ hs) [] = true
matched n (h ∷ hs) (r ∷ rs) = pair_test n h r && matched n hs rs

-- "a network's own part", where there are n rooms: it has 256 numbers, is possible as a gathering by itself, and each number's room is as it has to be
unfoldable pub part_possible : ℕ → Part → Bool
part_possible n p =
    eqb (length p.gathering.held) 256 && eqb (length p.rooms) 256
    && gathering_possible p.gathering && matched n p.gathering.held p.rooms

-- 12 is for a state that is not so: "12 also for a store not as long as at the start, and for a state in which a network's own part isn't possible, a held
-- number has no room of the store, an unheld one has a room, or two have the same room"
unfoldable pub possible_of : Networks → ℕ → Bool
possible_of x bytes =
    eqb x.bytes bytes && part_possible (rooms_in bytes) x.one && part_possible (rooms_in bytes) x.two
    && none_twice (rooms_in bytes) x.one.rooms x.two.rooms

-- ---- one of the two

pub data Network : Type 0 where
  network1 : Network
  network2 : Network

-- a network is told by its number
unfoldable pub network_of : ℕ → Option Network
network_of n = if eqb n 1 then some network1 else if eqb n 2 then some network2 else none

-- is there such a network?
unfoldable pub is_some : Option Network → Bool
is_some none = false
is_some (some i) = true

unfoldable pub mine : Network → Networks → Part
mine network1 x = x.one
mine network2 x = x.two

unfoldable pub theirs : Network → Networks → Part
theirs network1 x = x.two
theirs network2 x = x.one

-- the state with another part of this network's
unfoldable pub with_mine : Network → Networks → Part → Networks
with_mine network1 x p = record { bytes = x.bytes; one = p; two = x.two }
with_mine network2 x p = record { bytes = x.bytes; one = x.one; two = p }
