-- Offsets at both ends of their range, and moments at both ends of a day and of the range of days.
use mathlib.Core.Path.{◌≡◌, refl}
use Rattle.std.specs.Prelude.{Ok, Err}
use lib.IntN.{pos, negsuc}
use Rattle.ground_refusal.specs.declared.Refusal.TheVariants.{OutsideSet, ImpossibleDay}
use Rattle.time_days.specs.Calendar.{in_range}
use Rattle.time_fields.specs.Field.{is_instant}
use Rattle.time_offset.specs.Offset.{floor_div, floor_mod, is_offset, timed_at, minute_moved, day_moved, second_moved, moved, to_utc, to_local}
use Rattle.time_offset.proofs.Moving.{arrived}

-- +840 at a day's first minute carries to the day before, −720 at its last to the day after
pub farthest_east : (to_utc (arrived 60000 0) (pos 840) ≡ Ok (arrived 59999 36000))
    × (to_local (arrived 59999 36000) (pos 840) ≡ Ok (arrived 60000 0))
unfolding to_utc to_local moved second_moved day_moved minute_moved timed_at is_offset floor_mod floor_div is_instant in_range
farthest_east = (refl, refl)

pub farthest_west : (to_utc (arrived 60000 86399) (negsuc 719) ≡ Ok (arrived 60001 43199))
    × (to_local (arrived 60001 43199) (negsuc 719) ≡ Ok (arrived 60000 86399))
unfolding to_utc to_local moved second_moved day_moved minute_moved timed_at is_offset floor_mod floor_div is_instant in_range
farthest_west = (refl, refl)

-- +841 and −721 are no offsets
pub no_offset : (to_utc (arrived 60000 0) (pos 841) ≡ Err (OutsideSet 0))
    × (to_local (arrived 60000 0) (negsuc 720) ≡ Err (OutsideSet 0))
unfolding to_utc to_local is_offset
no_offset = (refl, refl)

-- the range's first minute is answered and the one before it refused; so its last minute and the one after
pub first_day : (to_utc (arrived 15079 50400) (pos 840) ≡ Ok (arrived 15079 0))
    × (to_utc (arrived 15079 50399) (pos 840) ≡ Err (ImpossibleDay 0))
unfolding to_utc moved second_moved day_moved minute_moved timed_at is_offset floor_mod floor_div is_instant in_range
first_day = (refl, refl)

pub last_day : (to_local (arrived 65535 35999) (pos 840) ≡ Ok (arrived 65535 86399))
    × (to_local (arrived 65535 36000) (pos 840) ≡ Err (ImpossibleDay 0))
unfolding to_local moved second_moved day_moved minute_moved timed_at is_offset floor_mod floor_div is_instant in_range
last_day = (refl, refl)
