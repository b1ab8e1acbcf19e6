-- The laws of local times that the code cites: what a time of day keeps to, the moment of a local time, and the order of refusals.
use mathlib.Core.Path.{◌≡◌, refl, sym, ap, ◌∙◌, subst}
use Rattle.std.specs.Prelude.{Result, Ok, Err}
use mathlib.Core.Bool.{Bool, true, false, cond}
use Prim.Native.Nat.{ℕ, ◌≤◌}
use borrow.Author.Tests.{leb-true}
use native.Mathlib.Omega.{arith}
use lib.IntN.{ℤ, pos, negsuc, neg_ℤ}
use Rattle.ground_refusal.specs.declared.Refusal.{Refusal}
use Rattle.ground_refusal.specs.declared.Refusal.TheVariants.{OutsideSet, ImpossibleDay}
use Rattle.time_days.specs.Calendar.{has_day, day_number, day_of}
use Rattle.time_fields.specs.declared.Moment.{Moment}
use Rattle.time_fields.specs.Field.{is_instant, field_of, read_time, write_time}
use Rattle.ground_choices.proofs.Tests.{both}
use Rattle.time_offset.specs.Offset.{is_offset, timed_at, day_moved, second_moved, moved, to_utc}
use Rattle.time_offset.proofs.Moving.{arrived, utc_by}
use Rattle.time_local.specs.declared.LocalTime.{LocalTime}
use Rattle.time_local.specs.Clock.{is_clock, second_of, on_day, local_moment, written, packed_at, pack_of, unpacked_at, unpack_of}

-- ---- a time of day

pub record ClockWithin (t : LocalTime) : Type 0 where
  pub hour : t.hour ≤ 23
  pub minute : t.minute ≤ 59
  pub second : t.second ≤ 59

pub clock_within : (t : LocalTime) → is_clock t ≡ true → ClockWithin t
unfolding is_clock
clock_within t e =
    let h = both _ _ e in
    let m = both _ _ h.1 in
    record { hour = leb-true _ _ h.0; minute = leb-true _ _ m.0; second = leb-true _ _ m.1 }

-- ---- the moment of a local time, by its day and its time of day

module _ (t : LocalTime) where
  pub no_day : {r : Refusal} → day_of t.year t.month t.day ≡ Err r → local_moment t ≡ Err r
  unfolding local_moment on_day
  no_day d = ap (on_day t) d

  pub on_day_lem : {n : ℕ} {b : Bool} → day_of t.year t.month t.day ≡ Ok n → is_clock t ≡ b
      → local_moment t ≡ cond b (Ok (arrived n (second_of t))) (Err (ImpossibleDay 0))
  unfolding local_moment on_day
  on_day_lem {n} d c =
      ap (on_day t) d ∙ ap (λ (b : Bool). cond b (Ok (arrived n (second_of t))) (Err (ImpossibleDay 0))) c

-- ---- 19 for the offset comes first

pub pack_by : (t : LocalTime) (offset : ℤ) {b : Bool} → is_offset offset ≡ b
    → pack_of t offset ≡ cond b (packed_at offset (local_moment t)) (Err (OutsideSet 0))
unfolding pack_of
pack_by t offset e = ap (λ (u : Bool). cond u (packed_at offset (local_moment t)) (Err (OutsideSet 0))) e

pub unpack_by : (field : ℕ) (offset : ℤ) {b : Bool} → is_offset offset ≡ b
    → unpack_of field offset ≡ cond b (unpacked_at offset (read_time field 0)) (Err (OutsideSet 0))
unfolding unpack_of
unpack_by field offset e = ap (λ (u : Bool). cond u (unpacked_at offset (read_time field 0)) (Err (OutsideSet 0))) e

-- ---- at an offset of the range 20 is the only refusal

-- a moment, or 20
abbrev OnlyTwenty : Result Moment Refusal → Type 0
OnlyTwenty (Ok m) = Unit {0}
OnlyTwenty (Err r) = r ≡ ImpossibleDay 0

moment_twenty : (b : Bool) (m : Moment) → OnlyTwenty (cond b (Ok m) (Err (ImpossibleDay 0)))
moment_twenty true m = tt
moment_twenty false m = refl

local_twenty : (t : LocalTime) → OnlyTwenty (local_moment t)
unfolding local_moment on_day day_of
local_twenty t = on (has_day t.year t.month t.day)
  where
    on : (b : Bool) → OnlyTwenty (on_day t (cond b (Ok (day_number t.year t.month t.day)) (Err (ImpossibleDay 0))))
    on true = moment_twenty (is_clock t) _
    on false = refl

moved_twenty : (m : Moment) (minutes : ℤ) → OnlyTwenty (moved m minutes)
unfolding moved timed_at
moved_twenty m minutes = on (is_instant m) (day_moved m minutes)
  where
    on : (b : Bool) (d : ℤ) → OnlyTwenty (cond b (timed_at d (second_moved m minutes)) (Err (ImpossibleDay 0)))
    on true (pos d) = moment_twenty (is_instant (arrived d (second_moved m minutes))) _
    on true (negsuc d) = refl
    on false d = refl

written_twenty : (x : Result Moment Refusal) → OnlyTwenty x → {r : Refusal} → written x ≡ Err r → written x ≡ Err (ImpossibleDay 0)
unfolding written write_time
written_twenty (Ok m) tt e = on (is_instant m) e
  where
    on : (b : Bool) {r : Refusal} → cond b (Ok (field_of m)) (Err (ImpossibleDay 0)) ≡ Err r
        → cond b (Ok (field_of m)) (Err (ImpossibleDay 0)) ≡ Err (ImpossibleDay 0)
    on true e = let z : ◌≡◌ {A = ℕ} 0 1 = cc in absurd (omega arith)
    on false e = refl
written_twenty (Err q) p e = ap Err p

module _ (t : LocalTime) (offset : ℤ) (o : is_offset offset ≡ true) where
  -- what is packed where the local time has a moment
  pub packs_moment : {local : Moment} {x : Result ℕ Refusal} → local_moment t ≡ Ok local → written (to_utc local offset) ≡ x → pack_of t offset ≡ x
  unfolding packed_at
  packs_moment l e = pack_by t offset o ∙ ap (packed_at offset) l ∙ e

  pub no_moment : {r : Refusal} → local_moment t ≡ Err r → pack_of t offset ≡ Err (ImpossibleDay 0)
  unfolding packed_at
  no_moment l =
      pack_by t offset o ∙ ap (packed_at offset) l ∙ ap Err (subst OnlyTwenty l (local_twenty t))

  pub no_utc : {local : Moment} {r : Refusal} → local_moment t ≡ Ok local → written (to_utc local offset) ≡ Err r
      → pack_of t offset ≡ Err (ImpossibleDay 0)
  no_utc {local} l e =
      let utc = subst OnlyTwenty (sym (utc_by local offset o)) (moved_twenty local (neg_ℤ offset)) in
      packs_moment l (written_twenty (to_utc local offset) utc e)
