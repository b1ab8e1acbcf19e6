-- A run of calls for two networks over a store of two rooms, computed by the checker: the answers are those of an independent program, tests/second_rooms.py.
-- Both rooms are held when a takeover comes, which is taken, and when further sections come, which are refused for room until one network ends.
use Prim.Native.Nat.{ℕ, ◌+◌}
use Rattle.std.specs.Prelude.{Ok, Err}
use mathlib.Core.Bool.{xor}
use mathlib.Core.List.{List, [], ◌∷◌}
use mathlib.Core.Path.{◌≡◌, refl}
use lib.ListN.{replicate}
use Rattle.crc_register.specs.Register.{odd, bits_of, digit, value, bytes_bits, plus, fed as fed_bit, step, run as run_bits, crc}
use Rattle.crc.specs.Crc.{crc32_of}
use Rattle.ground_placing.specs.Placed.{placed}
use Rattle.ground_refusal.specs.Numbers.{refusal_number}
use Rattle.ground_equal.specs.Same.{same_bytes}
use Rattle.section_reader.specs.Section.{is_kind, word, section_length, fixed_bits, heading_of, payload_of, read_section}
use Rattle.gathering_state.specs.Lists.{greatest, smallest_missing, total, held_count, part}
use Rattle.gathering_state.specs.State.{fresh_state, is_fresh, lengths, is_begun, possible_of, nothing_begun, has_room, opened, with_section, spoiled_state}
use Rattle.gathering_tables.specs.Tables.{steps_ahead, same_table, is_newer}
use Rattle.gathering_verdict.specs.Deciding.{agrees, begins}
use Rattle.gathering_feed.specs.Feeding.{answer_by}
use Rattle.gathering_feed.specs.declared.Answer.TheVariants.{Taken, HeldAlready}
use Rattle.gathering_hand_out.specs.Handing.{joined, missing_of, complete_of, handed_if_room, handed_by, out_by}
use Rattle.rooms_marks.specs.Rooms.{count, uses, none_twice, free_from, free_room}
use Rattle.rooms_state.specs.State as rooms
use Rattle.rooms_verdict.specs.Deciding as verdicts
use Rattle.rooms_feed.specs.Feeding as feeding_of
use Rattle.rooms_hand_out.specs.Handing as handing
use Rattle.rooms_end.specs.Ending.{ended_for, ended_of}
use Rattle.rooms_account.specs.Alone.{Told, fed, handed, ended, feeding, handing_out, ending}
use Rattle.rooms_account.specs.Runs.{Box, fresh_box, Asked, told, box_after, answer, next}

-- an answer as a number: 100 taken, 101 held already, 200 and the body's length, 300 ended, or the refusal's number
abbrev shown : Told → ℕ
shown (fed (Ok Taken)) = 100
shown (fed (Ok HeldAlready)) = 101
shown (fed (Err r)) = refusal_number r
shown (handed (Ok n) out) = 200 + n
shown (handed (Err r) out) = refusal_number r
shown (ended (Ok tt)) = 300
shown (ended (Err r)) = refusal_number r

abbrev answered : Box → List Asked → List ℕ
answered x [] = []
answered x (c ∷ asked) = shown (answer x c) ∷ answered (next x c) asked

-- ---- the sections and the calls

abbrev one_first : List ℕ
one_first = 253 ∷ 240 ∷ 10 ∷ 0 ∷ 7 ∷ 199 ∷ 0 ∷ 1 ∷ 17 ∷ 106 ∷ 165 ∷ 4 ∷ 2 ∷ []

abbrev one_second : List ℕ
one_second = 253 ∷ 240 ∷ 11 ∷ 0 ∷ 7 ∷ 199 ∷ 1 ∷ 1 ∷ 18 ∷ 19 ∷ 146 ∷ 94 ∷ 246 ∷ 70 ∷ []

abbrev one_other : List ℕ
one_other = 253 ∷ 240 ∷ 10 ∷ 0 ∷ 7 ∷ 199 ∷ 0 ∷ 1 ∷ 153 ∷ 37 ∷ 161 ∷ 9 ∷ 84 ∷ []

abbrev one_newer : List ℕ
one_newer = 253 ∷ 240 ∷ 10 ∷ 0 ∷ 7 ∷ 201 ∷ 0 ∷ 0 ∷ 33 ∷ 85 ∷ 139 ∷ 84 ∷ 152 ∷ []

abbrev two_first : List ℕ
two_first = 254 ∷ 240 ∷ 10 ∷ 0 ∷ 9 ∷ 195 ∷ 0 ∷ 1 ∷ 49 ∷ 111 ∷ 180 ∷ 86 ∷ 101 ∷ []

abbrev two_second : List ℕ
two_second = 254 ∷ 240 ∷ 9 ∷ 0 ∷ 9 ∷ 195 ∷ 1 ∷ 1 ∷ 107 ∷ 232 ∷ 136 ∷ 63 ∷ []

abbrev two_old : List ℕ
two_old = 254 ∷ 240 ∷ 9 ∷ 0 ∷ 9 ∷ 194 ∷ 1 ∷ 1 ∷ 106 ∷ 48 ∷ 36 ∷ 184 ∷ []

abbrev damaged : List ℕ
damaged = 253 ∷ 240 ∷ 10 ∷ 0 ∷ 7 ∷ 199 ∷ 0 ∷ 1 ∷ 17 ∷ 106 ∷ 165 ∷ 4 ∷ 3 ∷ []

abbrev asked : List Asked
asked =
    record { network = 1; call = feeding one_first }
    ∷ record { network = 2; call = feeding two_first }
    ∷ record { network = 2; call = feeding two_old }
    ∷ record { network = 1; call = feeding one_second }
    ∷ record { network = 1; call = feeding one_first }
    ∷ record { network = 2; call = feeding damaged }
    ∷ record { network = 3; call = feeding one_first }
    ∷ record { network = 1; call = handing_out (replicate 4 0) }
    ∷ record { network = 1; call = feeding two_first }
    ∷ record { network = 1; call = feeding one_newer }
    ∷ record { network = 2; call = feeding two_second }
    ∷ record { network = 1; call = handing_out (replicate 4 0) }
    ∷ record { network = 1; call = ending }
    ∷ record { network = 2; call = feeding two_second }
    ∷ record { network = 1; call = feeding one_first }
    ∷ record { network = 2; call = handing_out (replicate 0 0) }
    ∷ record { network = 2; call = handing_out (replicate 4 0) }
    ∷ record { network = 1; call = handing_out (replicate 4 0) }
    ∷ record { network = 2; call = ending }
    ∷ record { network = 1; call = feeding one_second }
    ∷ record { network = 1; call = feeding one_first }
    ∷ record { network = 1; call = feeding one_other }
    ∷ record { network = 1; call = feeding one_second }
    ∷ record { network = 1; call = handing_out (replicate 9 0) }
    ∷ record { network = 1; call = feeding one_newer }
    ∷ record { network = 1; call = handing_out (replicate 9 0) }
    ∷ record { network = 0; call = ending }
    ∷ []

-- the answers of the second program
abbrev answers : List ℕ
answers = 100 ∷ 100 ∷ 8 ∷ 35 ∷ 101 ∷ 7 ∷ 19 ∷ 13 ∷ 9 ∷ 100 ∷ 35 ∷ 201 ∷ 300 ∷ 100 ∷ 35 ∷ 21 ∷ 201 ∷ 13 ∷ 300 ∷ 100 ∷ 100 ∷ 11 ∷ 11 ∷ 11 ∷ 100 ∷ 201 ∷ 19 ∷ []

-- ---- the checker's answers are these

pub computed : answered (fresh_box (replicate 8268 0)) asked ≡ answers
unfolding odd bits_of digit value bytes_bits plus fed_bit step run_bits crc crc32_of xor placed is_kind word section_length fixed_bits heading_of payload_of read_section
    greatest smallest_missing total held_count part same_bytes fresh_state is_fresh lengths is_begun possible_of nothing_begun has_room opened with_section spoiled_state
    steps_ahead same_table is_newer agrees begins answer_by joined missing_of complete_of handed_if_room handed_by out_by count uses none_twice free_from free_room
    rooms.fresh_part rooms.fresh_networks rooms.rooms_in rooms.room_place rooms.room_at rooms.room_payload rooms.pair_test rooms.matched rooms.part_possible
    rooms.possible_of
    rooms.network_of rooms.mine rooms.theirs rooms.with_mine verdicts.number_verdict verdicts.good_verdict verdicts.section_verdict verdicts.verdict_of
    feeding_of.opened_part feeding_of.base feeding_of.room_for feeding_of.roomed feeding_of.room_verdict feeding_of.with_room feeding_of.part_by feeding_of.store_by
    feeding_of.part_fed feeding_of.part_store feeding_of.fed_for feeding_of.store_for feeding_of.fed_of feeding_of.store_after
    handing.body_in handing.part_handed handing.part_out handing.handed_for handing.out_for handing.handed_of handing.out_after ended_for ended_of
    fresh_box told box_after answer next
computed = refl
