-- What a reader has to believe of offsets: UTC is local less the offset, and the floor of the minutes over a day moves the day.
use Rattle.std.specs.Prelude.{◌≡◌, Bool, true, ◌&&◌, cond, ℕ, suc, ◌+◌, ◌-◌, ◌*◌, ◌/◌, ◌%◌, ℤ, pos, negsuc, neg_ℤ, ◌+ℤ◌, Result, Ok, Err}
use Rattle.ground_refusal.specs.declared.Refusal.{Refusal}
use Rattle.std.specs.Int.Signed.{le_z}
use Rattle.ground_refusal.specs.declared.Refusal.TheVariants.{OutsideSet, ImpossibleDay}
use Rattle.time_fields.specs.declared.Moment.{Moment}
use Rattle.time_fields.specs.Field.{is_instant}

-- the greatest whole number of times that n goes into z: into -1 it goes -1 times, as into -n
unfoldable pub floor_div : ℤ → ℕ → ℤ
floor_div (pos a) n = pos (a / n)
floor_div (negsuc a) n = negsuc (a / n)

-- what is left of z then, from 0 and below n
unfoldable pub floor_mod : ℤ → ℕ → ℕ
floor_mod (pos a) n = a % n
floor_mod (negsuc a) n = n - suc (a % n)

-- "an offset of −720 to +840 minutes, east positive"
unfoldable pub is_offset : ℤ → Bool
is_offset minutes = le_z (negsuc 719) minutes && le_z minutes (pos 840)

-- a second of a day of any sign: "both the local and the UTC day must lie in range (else 20)"
unfoldable pub timed_at : ℤ → ℕ → Result Moment Refusal
timed_at (pos day) second =
    cond (is_instant (record { day = day; second = second }))
    (Ok (record { day = day; second = second }))
    (Err (ImpossibleDay 0))
timed_at (negsuc day) second = Err (ImpossibleDay 0)

-- so many minutes later, the minute counts from the day's first one: below 0 it lies on a day before, from 1440 on a day after
unfoldable pub minute_moved : Moment → ℤ → ℤ
minute_moved m minutes = pos (m.second / 60) +ℤ minutes

-- "a carry moves the day"
unfoldable pub day_moved : Moment → ℤ → ℤ
day_moved m minutes = pos m.day +ℤ floor_div (minute_moved m minutes) 1440

-- the second of that day: its minute, and the seconds kept
unfoldable pub second_moved : Moment → ℤ → ℕ
second_moved m minutes = floor_mod (minute_moved m minutes) 1440 * 60 + m.second % 60

-- the moment so many minutes later
unfoldable pub moved : Moment → ℤ → Result Moment Refusal
moved m minutes = cond (is_instant m) (timed_at (day_moved m minutes) (second_moved m minutes)) (Err (ImpossibleDay 0))

-- "UTC is local less offset": 19 for the offset comes first, then 20
unfoldable pub to_utc : Moment → ℤ → Result Moment Refusal
to_utc local offset = cond (is_offset offset) (moved local (neg_ℤ offset)) (Err (OutsideSet 0))

-- "Local from UTC adds it"
unfoldable pub to_local : Moment → ℤ → Result Moment Refusal
to_local utc offset = cond (is_offset offset) (moved utc offset) (Err (OutsideSet 0))

-- l is the local moment, at an offset, of the UTC moment u, both in range: so many minutes on, the seconds the same
abbrev pub minutes_of : Moment → ℕ
minutes_of m = m.day * 1440 + m.second / 60

pub record IsLocal (l u : Moment) (offset : ℤ) : Type 0 where
  pub offset_is : is_offset offset ≡ true
  pub local_is : is_instant l ≡ true
  pub utc_is : is_instant u ≡ true
  pub minutes_are : pos (minutes_of l) ≡ pos (minutes_of u) +ℤ offset
  pub seconds_are : l.second % 60 ≡ u.second % 60
