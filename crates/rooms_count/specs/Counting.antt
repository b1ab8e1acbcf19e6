-- What a reader has to believe of the counts of rooms: how many are held, and how many nobody holds; 12 for a state that is not possible.
use Rattle.std.specs.Prelude.{ℕ, ◌+◌, not, if◌then◌else◌, Result, Ok, Err}
use Rattle.ground_refusal.specs.declared.Refusal.{Refusal}
use Rattle.ground_refusal.specs.declared.Refusal.TheVariants.{ImpossibleState}
use Rattle.rooms_marks.specs.Rooms.{held_rooms, free_rooms}
use Rattle.rooms_state.specs.State.{rooms_in, possible_of}
use Rattle.rooms_state.specs.declared.Networks.{Networks}

-- the rooms that both networks hold
unfoldable pub held : Networks → ℕ
held x = held_rooms x.one.rooms + held_rooms x.two.rooms

-- those of a store of so many bytes that nobody holds
unfoldable pub free : Networks → ℕ → ℕ
free x bytes = free_rooms (rooms_in bytes) x.one.rooms x.two.rooms

unfoldable pub held_of : Networks → ℕ → Result ℕ Refusal
held_of x bytes = if not (possible_of x bytes) then Err ImpossibleState else Ok (held x)

unfoldable pub free_of : Networks → ℕ → Result ℕ Refusal
free_of x bytes = if not (possible_of x bytes) then Err ImpossibleState else Ok (free x bytes)
