-- Floor division by its rule: so many times the minutes of a day, and what is left from 0 and below them.
use Prim.Native.Nat.{◌+◌, ◌*◌, ◌<◌, ◌≤◌}
use native.Mathlib.Omega.{arith}
use lib.IntN.{ℤ, pos, negsuc}
use lib.Signed.{mag}
use Rattle.time_offset.specs.Offset.{floor_div, floor_mod}
use Rattle.time_offset.proofs.Signed.{up, down, Difference}

pub floors : (z : ℤ) → Difference z (1440 * up (floor_div z 1440) + floor_mod z 1440) (1440 * down (floor_div z 1440))
unfolding floor_div floor_mod
floors (pos a) = record { is = omega arith }
floors (negsuc a) = record { is = omega arith }

pub left_below : (z : ℤ) → floor_mod z 1440 < 1440
unfolding floor_mod
left_below (pos a) = omega arith
left_below (negsuc a) = omega arith

pub no_larger : (z : ℤ) → mag (floor_div z 1440) ≤ mag z
unfolding floor_div
no_larger (pos a) = omega arith
no_larger (negsuc a) = omega arith
