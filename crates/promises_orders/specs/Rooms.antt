-- What a reader has to believe of the refusals of two networks over one store: M-109's orders, each number with its condition.
use Rattle.std.specs.Prelude.{ℕ, Bool, not, ◌&&◌, ◌||◌, List, [], ◌∷◌, ◌++◌, eqb, ltb, length, replicate, if◌then◌else◌, Result, Ok}
use Rattle.ground_refusal.specs.declared.Refusal.{Refusal}
use Rattle.std.proofs.Math.Option.{Option, none, some}
use Rattle.ground_refusal.specs.declared.Refusal.TheVariants.{NotCurrent, OtherHeading, Contradiction, ImpossibleState, Missing, OutsideSet}
use Rattle.ground_refusal.specs.declared.Refusal.TheVariants.{OutputTooSmall, NoFreeRoom}
use Rattle.ground_equal.specs.Same.{same_bytes}
use Rattle.section_reader.specs.Section.{heading_of, payload_of}
use Rattle.gathering_state.specs.Lists.{smallest_missing}
use Rattle.gathering_state.specs.State.{nothing_begun, lengths}
use Rattle.gathering_tables.specs.Tables.{is_other}
use Rattle.gathering_verdict.specs.Deciding.{fixed_heading, agrees, begins}
use Rattle.gathering_feed.specs.declared.Answer.{Answer}
use Rattle.gathering_feed.specs.declared.Answer.TheVariants.{Taken, HeldAlready}
use Rattle.rooms_marks.specs.Rooms.{free_room}
use Rattle.rooms_state.specs.State.{rooms_in, room_payload, possible_of, Network, is_some, mine, theirs}
use Rattle.rooms_state.specs.declared.Part.{Part}
use Rattle.rooms_state.specs.declared.Networks.{Networks}
use Rattle.rooms_hand_out.specs.Handing.{body_in}
use Rattle.promises_orders.specs.Order.{Line, ◌when◌}
use Rattle.promises_orders.specs.Sections.{section_lines}
use Rattle.promises_orders.specs.Gathering.{is_held}

-- the part that a call is made for, and the other; where there is no such network nothing behind 19 is looked at
unfoldable pub part_for : Option Network → Networks → Part
part_for none x = x.one
part_for (some i) x = mine i x

unfoldable pub other_for : Option Network → Networks → Part
other_for none x = x.two
other_for (some i) x = theirs i x

-- "first 19 for a network other than 1 or 2; 12": of every call for a network
unfoldable pub network_lines : Option Network → Networks → ℕ → List Line
network_lines o x bytes =
    OutsideSet 0 when not (is_some o)
    ∷ ImpossibleState when not (possible_of x bytes)
    ∷ []

-- "same heading and number, other payload", which stands in its room
unfoldable pub contradicts_room : Part → List ℕ → List ℕ → Bool
contradicts_room p store s =
    agrees p.gathering (heading_of s) && is_held p.gathering s
    && not (same_bytes (room_payload p store (heading_of s).number) (payload_of s))

-- "every room is held", once the rooms that a takeover gives back are given back
unfoldable pub is_full : ℕ → Part → Part → List ℕ → Bool
is_full n p q s = eqb (free_room n (if begins p.gathering (heading_of s) then replicate 256 0 else p.rooms) q.rooms) 0

-- what is fed for a network whose part is p, the other's being q, where there are n rooms: 1 to 7, 8, 9, 11, 35
unfoldable pub part_lines : ℕ → Part → Part → List ℕ → List ℕ → List Line
part_lines n p q store s =
    section_lines s
    -- 8: "current is 0"
    ++ NotCurrent when not (heading_of s).current
    -- 9, as for a gathering of its own
    ∷ OtherHeading when (not (nothing_begun p.gathering) && is_other (fixed_heading p.gathering) (heading_of s))
    -- 11: "same heading and number, other payload; or the gathering is spoiled already"; a newer table's section starts over "spoiled or not"
    ∷ Contradiction when (contradicts_room p store s || not (begins p.gathering (heading_of s)) && not (eqb p.gathering.spoiled 0))
    -- 35: "A section that needs a room is refused for room exactly if every room is held; repeats [..] need none"
    ∷ NoFreeRoom when (not (is_held p.gathering s) && is_full n p q s)
    ∷ []

-- feeding: 19, 12, 1 to 7, 8, 9, 11, and "35 no free room, after 11"; "10 is not given"
unfoldable pub networks_feeding_lines : Option Network → Networks → List ℕ → List ℕ → List Line
networks_feeding_lines o x store s =
    network_lines o x (length store) ++ part_lines (rooms_in (length store)) (part_for o x) (other_for o x) store s

-- "A repeat with the same payload is answered "held already"", any other section is taken
unfoldable pub fed_value : Option Network → Networks → List ℕ → Result Answer Refusal
fed_value o x s = if is_held (part_for o x).gathering s then (Ok HeldAlready) else (Ok Taken)

-- handing out: 19; 12; 13 if nothing begun; 11; 13; 21
unfoldable pub networks_handing_lines : Option Network → Networks → List ℕ → List ℕ → List Line
networks_handing_lines o x store out =
    network_lines o x (length store)
    ++ Missing 0 when nothing_begun (part_for o x).gathering
    ∷ Contradiction when not (eqb (part_for o x).gathering.spoiled 0)
    ∷ Missing (smallest_missing (lengths (part_for o x).gathering))
    when ltb (smallest_missing (lengths (part_for o x).gathering)) (length (lengths (part_for o x).gathering))
    ∷ OutputTooSmall when ltb (length out) (length (body_in (part_for o x) store))
    ∷ []

-- the counts: 12
unfoldable pub counting_lines : Networks → ℕ → List Line
counting_lines x bytes = ImpossibleState when not (possible_of x bytes) ∷ []
