-- Reading and writing a time are exact inverses: each accepted field comes back from its moment, and each instant from its field.
use mathlib.Core.Path.{◌≡◌, refl, ap, ◌∙◌}
use Rattle.std.specs.Prelude.{Ok, Err}
use mathlib.Core.Bool.{Bool, true, false, ◌&&◌, cond}
use Prim.Native.Nat.{ℕ, ◌/◌, ◌%◌, ◌^◌, ◌≤◌, ◌<◌}
use native.Mathlib.Omega.{arith}
use lib.Dec.{leb}
use borrow.Author.Tests.{le-leb, leb-true}
use Rattle.ground_refusal.specs.declared.Refusal.TheVariants.{ImpossibleDay}
use Rattle.time_fields.specs.declared.Moment.{Moment}
use Rattle.time_days.specs.Calendar.{in_range}
use Rattle.time_fields.specs.Field.{two_digits, worth, day_part, hour_part, minute_part, second_part, is_decimal, possible, moment_of, read_time, is_instant, field_of, write_time}
use Rattle.ground_choices.proofs.Tests.{both, and_of}
use Rattle.time_fields.proofs.Pairs.{Holds, two_digits_byte, two_digits_hold, two_digits_worth}
use Rattle.time_fields.proofs.Parts.{parts, together, clock, clock_together}
use Rattle.time_fields.proofs.Instants.{Instant, instant, day_in_range, is_instant_lem}
use Rattle.time_fields.proofs.Reading.{Accepted, accepted, accepted_only}

-- the parts of the field f hold day d and the digits of hours h, minutes m and seconds s
pub record Says (f d h m s : ℕ) : Type 0 where
  pub day : day_part f ≡ d
  pub hour : Holds (hour_part f) h
  pub minute : Holds (minute_part f) m
  pub second : Holds (second_part f) s

-- what the field of an instant says, and that it is accepted as that instant
module _ (m : Moment) (i : Instant m) where
  hour_byte : two_digits (m.second / 3600) < 256
  hour_byte = two_digits_byte _ (omega arith)

  minute_byte : two_digits (m.second / 60 % 60) < 256
  minute_byte = two_digits_byte _ (omega arith)

  second_byte : two_digits (m.second % 60) < 256
  second_byte = two_digits_byte _ (omega arith)

  pub field_fits : field_of m < 2 ^ 40
  unfolding field_of
  field_fits = omega (arith, hour_byte, minute_byte, second_byte)

  pub field_says : Says (field_of m) m.day (m.second / 3600) (m.second / 60 % 60) (m.second % 60)
  unfolding field_of
  field_says =
      let p = parts m.day hour_byte minute_byte second_byte in
      record {
        day = p.day;
        hour = rw p.hour (two_digits_hold _ (omega arith));
        minute = rw p.minute (two_digits_hold _ (omega arith));
        second = rw p.second (two_digits_hold _ (omega arith));
      }

  pub accepts_field : Accepted (field_of m) m
  unfolding is_decimal possible moment_of
  accepts_field =
      let p = field_says in
      record {
        fits = field_fits;
        digits = and_of p.hour.decimal (and_of p.minute.decimal p.second.decimal);
        time =
            simp (p.day, p.hour.value, p.minute.value, p.second.value)
            (and_of (day_in_range m i)
            (and_of (le-leb (m.second / 3600) 23 (omega arith))
            (and_of (le-leb (m.second / 60 % 60) 59 (omega arith)) (le-leb (m.second % 60) 59 (omega arith)))));
        is = simp (p.day, p.hour.value, p.minute.value, p.second.value, clock_together);
      }

  pub reads_field : (at : ℕ) → read_time (field_of m) at ≡ Ok m
  reads_field at = accepted at accepts_field

-- what a possible field keeps to
record Possible (f : ℕ) : Type 0 where
  from : 15079 ≤ day_part f
  until : day_part f ≤ 65535
  hour : worth (hour_part f) ≤ 23
  minute : worth (minute_part f) ≤ 59
  second : worth (second_part f) ≤ 59

is_possible_lem : (f : ℕ) → possible f ≡ true → Possible f
unfolding possible in_range
is_possible_lem f e =
    let day = both (leb 15079 (day_part f) && leb (day_part f) 65535) _ e in
    let range = both _ _ day.0 in
    let hour = both _ _ day.1 in
    let rest = both _ _ hour.1 in
    record {
      from = leb-true _ _ range.0;
      until = leb-true _ _ range.1;
      hour = leb-true _ _ hour.0;
      minute = leb-true _ _ rest.0;
      second = leb-true _ _ rest.1;
    }

-- an accepted field holds an instant, and is the field of that instant
module _ (f : ℕ) (m : Moment) (a : Accepted f m) where
  pub accepted_instant : Instant m
  unfolding moment_of
  accepted_instant =
      let p = is_possible_lem f a.time in
      rw a.is (record { from = p.from; until = p.until; within = omega arith })

  pub field_of_accepted : field_of m ≡ f
  unfolding field_of moment_of is_decimal
  field_of_accepted =
      let p = is_possible_lem f a.time in
      let k = clock (worth (hour_part f)) (worth (minute_part f)) (worth (second_part f)) (omega arith) (omega arith) in
      let d = both _ _ a.digits in
      let e = both _ _ d.1 in
      rw a.is
      (simp (
        k.hour,
        k.minute,
        k.second,
        two_digits_worth _ d.0,
        two_digits_worth _ e.0,
        two_digits_worth _ e.1,
        together f,
      ))

  pub writes_accepted : write_time m ≡ Ok f
  unfolding write_time
  writes_accepted = simp (is_instant_lem m accepted_instant, field_of_accepted)

-- what is written of what was read is the field, and what is read of what was written is the moment
pub writes_read : (f at : ℕ) {m : Moment} → read_time f at ≡ Ok m → write_time m ≡ Ok f
writes_read f at e = writes_accepted f _ (accepted_only f at e)

pub reads_written : (m : Moment) (at : ℕ) {f : ℕ} → write_time m ≡ Ok f → read_time f at ≡ Ok m
unfolding write_time
reads_written m at {f} e = by_test (is_instant m) refl e
  where
    by_test : (t : Bool) → is_instant m ≡ t → cond t (Ok (field_of m)) (Err (ImpossibleDay 0)) ≡ Ok f → read_time f at ≡ Ok m
    by_test true i e = ap (λ (g : ℕ). read_time g at) (cc) ∙ reads_field m (instant m i) at
    by_test false i e = cc
