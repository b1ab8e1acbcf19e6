-- A moment moved by less than a day: where it comes to, and what is answered there.
use mathlib.Core.Path.{◌≡◌, sym, ap, ◌∙◌}
use Rattle.std.specs.Prelude.{Ok, Err}
use mathlib.Core.Bool.{Bool, true, false, cond}
use Prim.Native.Nat.{ℕ, ◌+◌, ◌-◌, ◌/◌, ◌^◌, ◌≤◌, ◌<◌}
use native.Mathlib.Omega.{arith}
use borrow.Author.Tests.{leb-true}
use lib.IntN.{ℤ, pos, negsuc, neg_ℤ}
use lib.Signed.{mag}
use mir.Syntax.{w32}
use mir.Val.{SFits, to_z, of_z}
use mir.Facts.{to_z-of_z}
use Rattle.ground_refusal.specs.declared.Refusal.TheVariants.{OutsideSet, ImpossibleDay}
use Rattle.time_fields.specs.declared.Moment.{Moment}
use Rattle.time_fields.specs.Field.{is_instant}
use Rattle.ground_choices.proofs.Tests.{both}
use Rattle.time_fields.proofs.Instants.{Instant}
use Rattle.time_offset.specs.Offset.{floor_div, is_offset, timed_at, minute_moved, day_moved, second_moved, moved, to_utc, to_local}
use Rattle.time_offset.proofs.Signed.{up, down, same, sum, opposite, parts, size}
use Rattle.time_offset.proofs.Floors.{no_larger}

-- a moment by its day and its second
abbrev pub arrived : ℕ → ℕ → Moment
arrived d s = record { day = d; second = s }

-- an offset is less than a day, and so is its opposite
offset_size : (z : ℤ) → is_offset z ≡ true → mag z ≤ 840
unfolding is_offset
offset_size (pos a) e = leb-true a 840 e
offset_size (negsuc a) e = omega (arith, leb-true a 719 (both _ _ e).0)

pub offset_short : (z : ℤ) → is_offset z ≡ true → (mag z < 1440) × (mag (neg_ℤ z) < 1440)
offset_short z e =
    let s = offset_size z e in
    let p = parts z in
    (omega arith, size (neg_ℤ z) (opposite z) (omega arith) (omega arith))

-- what a test of an offset's bits says of the offset
pub offset_tested : {offset : ℤ} {tested t : Bool} → SFits w32 offset → tested ≡ is_offset (to_z w32 (of_z w32 offset)) → tested ≡ t
    → is_offset offset ≡ t
offset_tested f p e = ap is_offset (sym (to_z-of_z f)) ∙ sym p ∙ e

-- 19 comes first, either way
pub utc_by : (local : Moment) (offset : ℤ) {t : Bool} → is_offset offset ≡ t
    → to_utc local offset ≡ cond t (moved local (neg_ℤ offset)) (Err (OutsideSet 0))
unfolding to_utc
utc_by local offset e = ap (λ (u : Bool). cond u (moved local (neg_ℤ offset)) (Err (OutsideSet 0))) e

pub local_by : (utc : Moment) (offset : ℤ) {t : Bool} → is_offset offset ≡ t
    → to_local utc offset ≡ cond t (moved utc offset) (Err (OutsideSet 0))
unfolding to_local
local_by utc offset e = ap (λ (u : Bool). cond u (moved utc offset) (Err (OutsideSet 0))) e

-- the day moved to, as a number from 0
abbrev pub day_to : Moment → ℤ → ℕ
day_to m minutes = m.day + up (floor_div (minute_moved m minutes) 1440) - down (floor_div (minute_moved m minutes) 1440)

-- where an instant comes to in less than a day
module _ (m : Moment) (minutes : ℤ) (i : Instant m) (short : mag minutes < 1440) where
  pub minute_size : mag (minute_moved m minutes) < 2880
  unfolding minute_moved
  minute_size =
      let p = parts minutes in
      size _ (sum (pos (m.second / 60)) minutes) (omega arith) (omega arith)

  -- so few minutes are few days
  pub days_size : mag (floor_div (minute_moved m minutes) 1440) < 2880
  days_size = omega (arith, minute_size, no_larger (minute_moved m minutes))

  pub day_to_lem : day_moved m minutes ≡ pos (day_to m minutes)
  unfolding day_moved
  day_to_lem =
      same _ _ (sum (pos m.day) (floor_div (minute_moved m minutes) 1440))
      (record { is = omega (arith, days_size, parts (floor_div (minute_moved m minutes) 1440)) })

  pub day_small : day_to m minutes < 2 ^ 31
  day_small = omega (arith, days_size, parts (floor_div (minute_moved m minutes) 1440))

-- what is answered: 20 where it starts outside the range or comes to be outside it
pub moved_outside : (m : Moment) (minutes : ℤ) → is_instant m ≡ false → moved m minutes ≡ Err (ImpossibleDay 0)
unfolding moved
moved_outside m minutes e =
    ap (λ (t : Bool). cond t (timed_at (day_moved m minutes) (second_moved m minutes)) (Err (ImpossibleDay 0))) e

module _ (m : Moment) (minutes : ℤ) where
  moved_at : (z : ℤ) → is_instant m ≡ true → day_moved m minutes ≡ z → moved m minutes ≡ timed_at z (second_moved m minutes)
  unfolding moved
  moved_at z a e =
      ap (λ (t : Bool). cond t (timed_at (day_moved m minutes) (second_moved m minutes)) (Err (ImpossibleDay 0))) a
      ∙ ap (λ (y : ℤ). timed_at y (second_moved m minutes)) e

  pub moved_before : (d : ℕ) → is_instant m ≡ true → day_moved m minutes ≡ negsuc d → moved m minutes ≡ Err (ImpossibleDay 0)
  unfolding timed_at
  moved_before d a e = moved_at (negsuc d) a e

  pub moved_to : (d : ℕ) {t : Bool} → is_instant m ≡ true → day_moved m minutes ≡ pos d → is_instant (arrived d (second_moved m minutes)) ≡ t
      → moved m minutes ≡ cond t (Ok (arrived d (second_moved m minutes))) (Err (ImpossibleDay 0))
  unfolding timed_at
  moved_to d a e b =
      moved_at (pos d) a e ∙ ap (λ (u : Bool). cond u (Ok (arrived d (second_moved m minutes))) (Err (ImpossibleDay 0))) b
