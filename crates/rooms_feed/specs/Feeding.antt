-- What a reader has to believe of feeding one of two networks: which room a section takes, when it is refused for room, and what each verdict makes of answer,
-- state and store.
use Rattle.std.specs.Prelude.{ℕ, ◌+◌, ◌*◌, ◌≤◌, not, List, eqb, length, set, replicate, if◌then◌else◌, Result, Ok, Err}
use Rattle.ground_refusal.specs.declared.Refusal.{Refusal}
use Rattle.std.proofs.Math.Option.{Option, none, some}
use Rattle.ground_numbers.specs.Sizes.{payload_most}
use Rattle.ground_placing.specs.Placed.{placed}
use Rattle.ground_refusal.specs.declared.Refusal.TheVariants.{ImpossibleState, OutsideSet, NoFreeRoom}
use Rattle.section_reader.specs.Section.{payload_of}
use Rattle.section_reader.specs.declared.Heading.{Heading}
use Rattle.gathering_state.specs.State.{opened, with_section, spoiled_state}
use Rattle.gathering_verdict.specs.declared.Verdict.{Verdict}
use Rattle.gathering_verdict.specs.declared.Verdict.TheVariants.{Repeat, Contradict, Begin, Take}
use Rattle.gathering_feed.specs.Feeding.{answer_by}
use Rattle.gathering_feed.specs.declared.Answer.TheVariants.{Taken}
use Rattle.rooms_marks.specs.Rooms.{free_room}
use Rattle.rooms_state.specs.State.{rooms_in, room_place, possible_of, Network, mine, theirs, with_mine}
use Rattle.rooms_state.specs.declared.Part.{Part}
use Rattle.rooms_state.specs.declared.Networks.{Networks}
use Rattle.rooms_verdict.specs.Deciding.{verdict_of}
use Rattle.rooms_feed.specs.declared.Fed.{Fed}
use Rattle.rooms_feed.specs.declared.FedPart.{FedPart}

-- ---- the room

-- the part of the heading's table, of which nothing is held yet
unfoldable pub opened_part : Heading → Part
opened_part h = record { gathering = opened h; rooms = replicate 256 0 }

-- the part that a section is taken into: what begins does so in a table of its own, "a takeover gives its rooms back before it takes one"
unfoldable pub base : Part → Result Verdict Refusal → Part
base p (Err r) = p
base p (Ok Repeat) = p
base p (Ok Contradict) = p
base p (Ok (Begin h)) = opened_part h
base p (Ok (Take h)) = p

-- the room for a section, where there are n and the other network holds `others`: the first free one, or 0 if every room is held
unfoldable pub room_for : ℕ → Part → List ℕ → Result Verdict Refusal → ℕ
room_for n p others v = free_room n (base p v).rooms others

-- "A section that needs a room is refused for room exactly if every room is held; repeats and contradictions need none"
unfoldable pub roomed : Result Verdict Refusal → ℕ → Result Verdict Refusal
roomed (Err r) room = Err r
roomed (Ok Repeat) room = Ok Repeat
roomed (Ok Contradict) room = Ok Contradict
roomed (Ok (Begin h)) room = if eqb room 0 then Err NoFreeRoom else Ok (Begin h)
roomed (Ok (Take h)) room = if eqb room 0 then Err NoFreeRoom else Ok (Take h)

-- "35 no free room, after 11": the verdict with the room looked for
unfoldable pub room_verdict : ℕ → Part → List ℕ → List ℕ → List ℕ → Result Verdict Refusal
room_verdict n p others store s = roomed (verdict_of p store s) (room_for n p others (verdict_of p store s))

-- ---- what follows from the verdict

-- number k, which was not held, is taken with a payload of m bytes into this room
unfoldable pub with_room : Part → ℕ → ℕ → ℕ → Part
with_room p k m room = record { gathering = with_section p.gathering k m; rooms = set p.rooms k room }

-- "taken one for each section whose number isn't yet held"; 11 for a contradiction spoils, and nothing else is changed
unfoldable pub part_by : Part → List ℕ → ℕ → Result Verdict Refusal → Part
part_by p payload room (Err r) = p
part_by p payload room (Ok Repeat) = p
part_by p payload room (Ok Contradict) = record { gathering = spoiled_state p.gathering; rooms = p.rooms }
part_by p payload room (Ok (Begin h)) = with_room (opened_part h) h.number (length payload) room
part_by p payload room (Ok (Take h)) = with_room p h.number (length payload) room

-- a taken payload goes to the start of its room; all other store bytes stay
unfoldable pub store_by : List ℕ → List ℕ → ℕ → Result Verdict Refusal → List ℕ
store_by store payload room (Err r) = store
store_by store payload room (Ok Repeat) = store
store_by store payload room (Ok Contradict) = store
store_by store payload room (Ok (Begin h)) = placed store (room_place room) payload
store_by store payload room (Ok (Take h)) = placed store (room_place room) payload

-- ---- one network's part, and its store

unfoldable pub part_fed : ℕ → Part → List ℕ → List ℕ → List ℕ → FedPart
part_fed n p others store s =
    record {
      answer = answer_by (room_verdict n p others store s);
      part = part_by p (payload_of s) (room_for n p others (verdict_of p store s)) (room_verdict n p others store s);
    }

unfoldable pub part_store : ℕ → Part → List ℕ → List ℕ → List ℕ → List ℕ
part_store n p others store s = store_by store (payload_of s) (room_for n p others (verdict_of p store s)) (room_verdict n p others store s)

-- ---- both networks

unfoldable pub fed_for : Network → Networks → List ℕ → List ℕ → Fed
fed_for i x store s =
    if not (possible_of x (length store)) then record { answer = Err ImpossibleState; state = x } else
    record {
      answer = (part_fed (rooms_in (length store)) (mine i x) (theirs i x).rooms store s).answer;
      state = with_mine i x (part_fed (rooms_in (length store)) (mine i x) (theirs i x).rooms store s).part;
    }

unfoldable pub store_for : Network → Networks → List ℕ → List ℕ → List ℕ
store_for i x store s =
    if not (possible_of x (length store)) then store else
    part_store (rooms_in (length store)) (mine i x) (theirs i x).rooms store s

-- "first 19 for a network other than 1 or 2": the answer and the state after the byte string s is fed
unfoldable pub fed_of : Option Network → Networks → List ℕ → List ℕ → Fed
fed_of none x store s = record { answer = Err (OutsideSet 0); state = x }
fed_of (some i) x store s = fed_for i x store s

-- the store after it
unfoldable pub store_after : Option Network → Networks → List ℕ → List ℕ → List ℕ
store_after none x store s = store
store_after (some i) x store s = store_for i x store s

-- ---- what the inner functions that take a section say, and ask for

-- a section of number k that needs a room, taken into part b where one of the n is free; else part p stays
unfoldable pub taken_fed : ℕ → Part → Part → ℕ → List ℕ → List ℕ → FedPart
taken_fed n p b k others s =
    if eqb (free_room n b.rooms others) 0 then record { answer = Err NoFreeRoom; part = p } else
    record { answer = (Ok Taken); part = with_room b k (length (payload_of s)) (free_room n b.rooms others) }

unfoldable pub taken_store : ℕ → Part → List ℕ → List ℕ → List ℕ → List ℕ
taken_store n b others store s =
    if eqb (free_room n b.rooms others) 0 then store else
    placed store (room_place (free_room n b.rooms others)) (payload_of s)

-- the payload lies in the byte string, and each of the n rooms in the store
pub record Roomy (n : ℕ) (store s : List ℕ) : Type 0 where
  pub long : 12 ≤ length s
  pub short : length s ≤ payload_most + 12
  pub few : n ≤ 512
  pub within : n * payload_most ≤ length store

-- so of the section's own room
pub record Fits (room : ℕ) (store s : List ℕ) : Type 0 where
  pub long : 12 ≤ length s
  pub short : length s ≤ payload_most + 12
  pub one : 1 ≤ room
  pub few : room ≤ 512
  pub within : room_place room + payload_most ≤ length store
