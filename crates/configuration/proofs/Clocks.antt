-- Laws of the clock: a date is at fault exactly where it has no day, and the numbers of a day or a time that is possible fit their fields.
use Prim.Native.Nat.{ℕ, ◌<◌}
use Rattle.std.specs.Prelude.{Ok, Err}
use mathlib.Core.Path.{◌≡◌, refl, sym, ap, ◌∙◌}
use mathlib.Core.Bool.{Bool, true, false, cond, ◌&&◌}
use native.Mathlib.Omega.{arith}
use lib.Dec.{leb}
use borrow.Author.Tests.{leb-true, lt-ltb}
use Rattle.ground_choices.proofs.Tests.{both}
use Rattle.ground_refusal.specs.declared.Refusal.{Refusal}
use Rattle.ground_refusal.specs.declared.Refusal.TheVariants.{ImpossibleDay}
use Rattle.time_days.specs.Calendar.{day_number, has_day, day_of}
use Rattle.time_days.proofs.Months.{length_within}
use Rattle.time_days.proofs.Answers.{day_accepted, day_month_until}
use Rattle.body_formats.specs.Reading.{unless, is_fine}
use Rattle.body_formats.specs.Format.{only, followed, count}
use Rattle.configuration.specs.Configuration.{day_fault, date, clock}

module _ (y m d : ℕ) where
  pub day_fault_lem : (at : ℕ) → day_fault (day_of y m d) at ≡ unless (has_day y m d) (ImpossibleDay at)
  unfolding day_of
  day_fault_lem at = go (has_day y m d)
    where
      go : (t : Bool) → day_fault (cond t (Ok (day_number y m d)) (Err (ImpossibleDay 0))) at ≡ unless t (ImpossibleDay at)
      go true = refl
      go false = refl

  -- "month starts from March 1900 to April 2038"
  pub day_fits : has_day y m d ≡ true → (y < 65536) × (m < 256) × (d < 256)
  unfolding day_of
  day_fits h =
      let is = day_accepted y m d (day_number y m d) (rw h) in
      let until = day_month_until (day_number y m d) y m d is in
      let long = length_within y m in
      (omega (arith, is.month_until), omega (arith, is.month_until), omega (arith, is.day_until))

pub time_fits : (h m s : ℕ) → (leb h 23 && (leb m 59 && leb s 59)) ≡ true → (h < 256) × (m < 256) × (s < 256)
time_fits h m s e =
    let f = both (leb h 23) (leb m 59 && leb s 59) e in
    let g = both (leb m 59) (leb s 59) f.1 in
    (omega (arith, leb-true h 23 f.0), omega (arith, leb-true m 59 g.0), omega (arith, leb-true s 59 g.1))

-- so neither of the two is ever refused for a number that is too large for its field (22)
fine_test : (t : Bool) (r : Refusal) → is_fine (unless t r) ≡ true → t ≡ true
fine_test true r e = refl
fine_test false r e = e

pub date_not_over : (x : ℕ × (ℕ × ℕ)) → date.writable x ≡ true → date.too_large x ≡ false
unfolding date only followed count
date_not_over x r =
    let f = day_fits x.0 x.1.0 x.1.1 (fine_test _ _ (ap is_fine (sym (day_fault_lem x.0 x.1.0 x.1.1 0)) ∙ r)) in
    rw (lt-ltb x.0 65536 f.0, lt-ltb x.1.0 256 f.1, lt-ltb x.1.1 256 f.2)

pub clock_not_over : (x : ℕ × (ℕ × ℕ)) → clock.writable x ≡ true → clock.too_large x ≡ false
unfolding clock only followed count
clock_not_over x r =
    let f = time_fits x.0 x.1.0 x.1.1 (fine_test _ _ r) in
    rw (lt-ltb x.0 256 f.0, lt-ltb x.1.0 256 f.1, lt-ltb x.1.1 256 f.2)
