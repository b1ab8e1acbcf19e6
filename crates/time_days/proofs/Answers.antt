-- The laws of the three answers that code and callers cite: which input is accepted, with what answer, and that every other is refused with 20.
use mathlib.Core.Path.{◌≡◌, refl, sym, ap, ◌∙◌}
use Rattle.std.specs.Prelude.{Ok, Err}
use mathlib.Core.Bool.{true, false}
use Prim.Native.Nat.{ℕ, zero, suc, ◌+◌, ◌-◌, ◌*◌, ◌%◌, ◌≤◌, ◌<◌}
use native.Mathlib.Decide.{dec_lt}
use native.Mathlib.Omega.{arith}
use lib.Dec.{T, leb, leb→le}
use borrow.Author.Tests.{lt-ltb, le-ltb, le-leb}
use Rattle.ground_refusal.specs.declared.Refusal.TheVariants.{ImpossibleDay}
use Rattle.time_days.specs.declared.Date.{Date}
use Rattle.time_days.specs.Calendar.{month_length, is_date, months_from, year_of, month_of, days_of, month_start, day_number, in_range, has_day, day_of, date_at, date_from, date_of, weekday_of}
use Rattle.ground_choices.proofs.Tests.{both_hold, all_hold, fails, picked}
use Rattle.time_days.proofs.Months.{within, months_of, days_of_lem, start_first, start_next, start_end, start_le, InMonth, one_month, in_table}

-- ---- the range

in_range_lem : (n : ℕ) → 15079 ≤ n → n ≤ 65535 → in_range n ≡ true
unfolding in_range
in_range_lem n h g = simp (le-leb 15079 n h, le-leb n 65535 g)

range : (n : ℕ) → T (in_range n) → (15079 ≤ n) × (n ≤ 65535)
unfolding in_range
range n t = let p = both_hold (leb 15079 n) (leb n 65535) t in (leb→le 15079 n p.0, leb→le n 65535 p.1)

-- what `in_range` found, as a caller's branch has it
pub in_range_only : (n : ℕ) → in_range n ≡ true → (15079 ≤ n) × (n ≤ 65535)
in_range_only n e = range n (rw e tt)

pub not_in_range : (n : ℕ) → in_range n ≡ false → 15079 ≤ n → n ≤ 65535 → ⊥
not_in_range n e h g = let z : ◌≡◌ {A = ℕ} 0 1 = cc (in_range_lem n h g) in omega arith

-- ---- the day of a date

-- n is the day of the range that has the date: what `day_of` accepts, by inequalities
pub record IsDay (n y m d : ℕ) : Type 0 where
  pub month_from : 1 ≤ m
  pub month_until : m ≤ 12
  pub day_from : 1 ≤ d
  pub day_until : d ≤ month_length y m
  pub after : 1900 * 12 + 3 ≤ y * 12 + m
  pub number : n ≡ day_number y m d
  pub from : 15079 ≤ n
  pub until : n ≤ 65535

module _ (y m d : ℕ) where
  accepts : T (has_day y m d) → IsDay (day_number y m d) y m d
  unfolding has_day is_date
  accepts t =
      let p = all_hold (leb 1 m) (leb m 12) (leb 1 d) (leb d (month_length y m)) (leb (1900 * 12 + 3) (y * 12 + m)) (in_range (day_number y m d)) t in
      let r = range (day_number y m d) p.5 in
      record {
        month_from = leb→le 1 m p.0;
        month_until = leb→le m 12 p.1;
        day_from = leb→le 1 d p.2;
        day_until = leb→le d (month_length y m) p.3;
        after = leb→le (1900 * 12 + 3) (y * 12 + m) p.4;
        number = refl;
        from = r.0;
        until = r.1;
      }

  pub day_given : (n : ℕ) → IsDay n y m d → day_of y m d ≡ Ok n
  unfolding day_of has_day is_date
  day_given n v =
      simp (
        le-leb 1 m v.month_from,
        le-leb m 12 v.month_until,
        le-leb 1 d v.day_from,
        le-leb d (month_length y m) v.day_until,
        le-leb (1900 * 12 + 3) (y * 12 + m) v.after,
        sym v.number,
        in_range_lem n v.from v.until,
      )

  pub day_refused : ((n : ℕ) → IsDay n y m d → ⊥) → day_of y m d ≡ Err (ImpossibleDay 0)
  unfolding day_of
  day_refused h = fails (has_day y m d) _ _ (λ t. h (day_number y m d) (accepts t))

  pub day_accepted : (n : ℕ) → day_of y m d ≡ Ok n → IsDay n y m d
  unfolding day_of
  day_accepted n e =
      let p = picked (has_day y m d) (Ok (day_number y m d)) (Err (ImpossibleDay 0)) (Ok n) e (λ q. let z : ◌≡◌ {A = ℕ} 0 1 = cc in omega arith) in
      let g : day_number y m d ≡ n = cc in
      rw g at (accepts p.0)

-- a date's day is in the date's month
pub day_in_month : (n y m d : ℕ) → IsDay n y m d → InMonth n (months_from y m)
unfolding day_number
day_in_month n y m d v =
    let e = days_of_lem y m v.month_from v.month_until v.after in
    record { from = omega arith; until = omega (arith, start_next (months_from y m)) }

-- no date of the range is past April 2038
pub day_month_until : (n y m d : ℕ) → IsDay n y m d → y * 12 + m ≤ 2038 * 12 + 4
unfolding months_from
day_month_until n y m d v = omega (arith, in_table n (months_from y m) (day_in_month n y m d v) v.until)

-- day d of month k, by where the month ends and where the range does
pub day_in_given : (k d : ℕ) → 1 ≤ d → month_start k + d ≤ month_start (suc k) → month_start k + d ≤ 65536 → day_of (year_of k) (month_of k) d ≡ Ok (month_start k + (d - 1))
unfolding days_of day_number
day_in_given k d p h g =
    let w = within k in
    day_given (year_of k) (month_of k) d _ (record {
      month_from = w.0;
      month_until = w.1;
      day_from = p;
      day_until = omega (arith, start_next k);
      after = w.2;
      number = ap (λ (i : ℕ). month_start i + (d - 1)) (sym (months_of k));
      from = omega (arith, start_first, start_le 0 k (omega arith));
      until = omega arith;
    })

pub day_in_refused : (k d : ℕ) → (month_start k + d ≤ month_start (suc k) → month_start k + d ≤ 65536 → ⊥) → day_of (year_of k) (month_of k) d ≡ Err (ImpossibleDay 0)
unfolding day_number
day_in_refused k d h =
    day_refused (year_of k) (month_of k) d (λ n v.
    let p = rw (months_of k) at (day_in_month n (year_of k) (month_of k) d v) in
    let e : n ≡ month_start k + (d - 1) = v.number ∙ ap (λ (i : ℕ). month_start i + (d - 1)) (months_of k) in
    h (omega arith) (omega arith))

-- ---- the date of a day

abbrev pub date_in : ℕ → ℕ → Date
date_in k n = date_at k (n - month_start k + 1)

-- a is the date of day n, by the month that n lies in
pub record Found (n : ℕ) (a : Date) : Type 0 where
  pub month : ℕ
  pub inside : InMonth n month
  pub date : a ≡ date_in month n

here : (n i left : ℕ) → month_start i + left ≡ n → left < days_of i → Found n (date_at i (left + 1))
here n i left e h =
    let f : left + 1 ≡ n - month_start i + 1 = omega arith in
    record { month = i; inside = record { from = omega arith; until = omega (arith, start_next i) }; date = ap (date_at i) f }

found : (months i left n : ℕ) → month_start i + left ≡ n → n < month_start (suc (i + months)) → Found n (date_from months i left)
unfolding date_from
found zero i left n e h =
    let f : suc (i + 0) ≡ suc i = omega arith in
    here n i left e (omega (arith, start_next i, ap month_start f))
found (suc months) i left n e h =
    elim (dec_lt left (days_of i)) [
      | yes g ↦ rw (lt-ltb left (days_of i) g, date_from) (here n i left e g)
      | no g ↦
          let f : suc (i + suc months) ≡ suc (suc i + months) = omega arith in
          rw (le-ltb left (days_of i) (omega arith), date_from)
          (found months (suc i) (left - days_of i) n (omega (arith, start_next i)) (rw f at h))
    ]

date_found : (n : ℕ) → 15079 ≤ n → n ≤ 65535 → Found n (date_from 1657 0 (n - 15079))
date_found n h g = found 1657 0 (n - 15079) n (omega (arith, start_first)) (omega (arith, start_end))

date_on : (n : ℕ) → 15079 ≤ n → n ≤ 65535 → date_of n ≡ Ok (date_from 1657 0 (n - 15079))
unfolding date_of
date_on n h g = rw (in_range_lem n h g)

pub date_refused : (n : ℕ) → (15079 ≤ n → n ≤ 65535 → ⊥) → date_of n ≡ Err (ImpossibleDay 0)
unfolding date_of
date_refused n h = fails (in_range n) _ _ (λ t. let r = range n t in h r.0 r.1)

-- the date of a day of the range, by its month
pub date_given : (n k : ℕ) → 15079 ≤ n → n ≤ 65535 → InMonth n k → date_of n ≡ Ok (date_in k n)
date_given n k h g p =
    let f = date_found n h g in
    date_on n h g ∙ ap Ok (f.date ∙ ap (λ (i : ℕ). date_in i n) (one_month n f.month k f.inside p))

-- what an accepted day and its date are
pub record IsDateOf (n : ℕ) (a : Date) : Type 0 where
  pub from : 15079 ≤ n
  pub until : n ≤ 65535
  pub in_month : Found n a

pub date_accepted : (n : ℕ) (a : Date) → date_of n ≡ Ok a → IsDateOf n a
unfolding date_of
date_accepted n a e =
    let p = picked (in_range n) (Ok (date_from 1657 0 (n - 15079))) (Err (ImpossibleDay 0)) (Ok a) e (λ q. let z : ◌≡◌ {A = ℕ} 0 1 = cc in omega arith) in
    let r = range n p.0 in
    let g : date_from 1657 0 (n - 15079) ≡ a = cc in
    record { from = r.0; until = r.1; in_month = rw g at (date_found n r.0 r.1) }

-- ---- the weekday of a day

pub weekday_given : (n : ℕ) → 15079 ≤ n → n ≤ 65535 → weekday_of n ≡ Ok ((n + 2) % 7 + 1)
unfolding weekday_of
weekday_given n h g = rw (in_range_lem n h g)

pub weekday_accepted : (n w : ℕ) → weekday_of n ≡ Ok w → (15079 ≤ n) × (n ≤ 65535) × (w ≡ (n + 2) % 7 + 1)
unfolding weekday_of
weekday_accepted n w e =
    let p = picked (in_range n) (Ok ((n + 2) % 7 + 1)) (Err (ImpossibleDay 0)) (Ok w) e (λ q. let z : ◌≡◌ {A = ℕ} 0 1 = cc in omega arith) in
    let r = range n p.0 in
    (r.0, r.1, cc)
