-- A number taken apart and put together again: a field into its parts, and a second of the day into hours, minutes and seconds.
use mathlib.Core.Path.{◌≡◌}
use Prim.Native.Nat.{ℕ, ◌+◌, ◌*◌, ◌/◌, ◌%◌, ◌^◌, ◌<◌}
use native.Mathlib.Omega.{arith}
use Rattle.time_fields.specs.Field.{day_part, hour_part, minute_part, second_part}

-- d, h, m and s are the parts of f
pub record Parts (f d h m s : ℕ) : Type 0 where
  pub day : day_part f ≡ d
  pub hour : hour_part f ≡ h
  pub minute : minute_part f ≡ m
  pub second : second_part f ≡ s

pub parts : (d : ℕ) {h m s : ℕ} → h < 256 → m < 256 → s < 256 → Parts (d * 2 ^ 24 + h * 2 ^ 16 + m * 2 ^ 8 + s) d h m s
parts d a b c = record { day = omega arith; hour = omega arith; minute = omega arith; second = omega arith }

pub together : (f : ℕ) → day_part f * 2 ^ 24 + hour_part f * 2 ^ 16 + minute_part f * 2 ^ 8 + second_part f ≡ f
together f = omega arith

-- h, m and s are the hours, minutes and seconds of the t-th second of a day
pub record Clock (t h m s : ℕ) : Type 0 where
  pub hour : t / 3600 ≡ h
  pub minute : t / 60 % 60 ≡ m
  pub second : t % 60 ≡ s

pub clock : (h m s : ℕ) → m < 60 → s < 60 → Clock (h * 3600 + m * 60 + s) h m s
clock h m s a b = record { hour = omega arith; minute = omega arith; second = omega arith }

pub clock_together : (t : ℕ) → t / 3600 * 3600 + t / 60 % 60 * 60 + t % 60 ≡ t
clock_together t = omega arith
