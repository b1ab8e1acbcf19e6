-- What the answers say together: each is the other's inverse, each day's date is the day after the last one's, and the bounds of what is accepted.
use mathlib.Core.Path.{◌≡◌, refl, sym, ap, ◌∙◌, subst}
use Rattle.std.specs.Prelude.{Ok}
use mathlib.Core.Logic.{⊎_elim}
use Prim.Native.Nat.{ℕ, suc, ◌+◌, ◌-◌, ◌≤◌, ◌<◌}
use native.Mathlib.Decide.{dec_lt}
use native.Mathlib.Omega.{arith}
use borrow.Author.Tests.{lt-ltb, le-ltb}
use Rattle.time_days.specs.declared.Date.{Date}
use Rattle.time_days.specs.Calendar.{month_length, months_from, year_of, month_of, days_of, month_start, day_number, day_of, date_of, day_after}
use Rattle.time_days.proofs.Months.{days_within, within, of_months, following, start_next, InMonth, in_table}
use Rattle.time_days.proofs.Answers.{day_accepted, day_in_month, day_in_given, date_in, date_given, date_accepted}

abbrev on : ℕ → ℕ → ℕ → Date
on y m d = record { year = y; month = m; day = d }

same : {y y' m m' d d' : ℕ} → y ≡ y' → m ≡ m' → d ≡ d' → on y m d ≡ on y' m' d'
same p q r = λ i. on (p i) (q i) (r i)

-- ---- each is the other's inverse

pub date_of_day : (y m d n : ℕ) → day_of y m d ≡ Ok n → date_of n ≡ Ok (record { year = y; month = m; day = d })
unfolding day_number
date_of_day y m d n e =
    let v = day_accepted y m d n e in
    let w = of_months y m v.month_from v.month_until v.after in
    date_given n (months_from y m) v.from v.until (day_in_month n y m d v) ∙ ap Ok (same w.0 w.1 (omega arith))

pub day_of_date : (n : ℕ) (a : Date) → date_of n ≡ Ok a → day_of a.year a.month a.day ≡ Ok n
day_of_date n a e =
    let h = (date_accepted n a e).until in
    let v = (date_accepted n a e).in_month in
    let p = v.inside in
    let f : month_start v.month + (n - month_start v.month + 1 - 1) ≡ n = omega arith in
    subst (λ (b : Date). day_of b.year b.month b.day ≡ Ok n) (sym v.date)
    (day_in_given v.month (n - month_start v.month + 1) (omega arith) (omega arith) (omega arith) ∙ ap Ok f)

-- ---- what is accepted

pub day_within : (y m d n : ℕ) → day_of y m d ≡ Ok n → (15079 ≤ n) × (n ≤ 65535)
day_within y m d n e = let v = day_accepted y m d n e in (v.from, v.until)

pub record DateWithin (a : Date) : Type 0 where
  pub year_from : 1900 ≤ a.year
  pub year_until : a.year ≤ 2038
  pub month_from : 1 ≤ a.month
  pub month_until : a.month ≤ 12
  pub day_from : 1 ≤ a.day
  pub day_until : a.day ≤ 31

pub date_within : (n : ℕ) (a : Date) → date_of n ≡ Ok a → DateWithin a
unfolding year_of
date_within n a e =
    let until = (date_accepted n a e).until in
    let v = (date_accepted n a e).in_month in
    let k = v.month in
    let p = v.inside in
    let w = within k in
    let h = in_table n k p until in
    subst DateWithin (sym v.date) (record {
      year_from = omega arith;
      year_until = omega arith;
      month_from = w.0;
      month_until = w.1;
      day_from = omega arith;
      day_until = omega (arith, start_next k, days_within k);
    })

-- ---- the date of the next day is the day after

module _ (y m d : ℕ) where
  in_the_month : d < month_length y m → day_after (on y m d) ≡ on y m (d + 1)
  unfolding day_after
  in_the_month h = rw (lt-ltb d (month_length y m) h)

  next_month : month_length y m ≤ d → m < 12 → day_after (on y m d) ≡ on y (m + 1) 1
  unfolding day_after
  next_month h g = rw (le-ltb d (month_length y m) h, lt-ltb m 12 g)

  next_year : month_length y m ≤ d → 12 ≤ m → day_after (on y m d) ≡ on (y + 1) 1 1
  unfolding day_after
  next_year h g = rw (le-ltb d (month_length y m) h, le-ltb m 12 g)

after_in : (n k : ℕ) → InMonth n k → 15079 ≤ n → n < 65535 → date_of (suc n) ≡ Ok (day_after (date_in k n))
unfolding days_of
after_in n k p h u =
    elim (dec_lt (suc n) (month_start (suc k))) [
      | yes g ↦
          date_given (suc n) k (omega arith) (omega arith) (record { from = omega arith; until = g })
          ∙ ap Ok (same refl refl (omega arith) ∙ sym (in_the_month (year_of k) (month_of k) (n - month_start k + 1) (omega (arith, start_next k))))
      | no g ↦
          let l : month_length (year_of k) (month_of k) ≤ n - month_start k + 1 = omega (arith, start_next k) in
          date_given (suc n) (suc k) (omega arith) (omega arith) (record { from = omega arith; until = omega (arith, start_next (suc k), days_within (suc k)) })
          ∙ ap Ok (⊎_elim
          (λ w. same w.1 w.2 (omega arith) ∙ sym (next_month (year_of k) (month_of k) (n - month_start k + 1) l w.0))
          (λ w. same w.1 w.2 (omega arith) ∙ sym (next_year (year_of k) (month_of k) (n - month_start k + 1) l (omega arith)))
          (following k))
    ]

pub next_day : (n : ℕ) (a : Date) → date_of n ≡ Ok a → n < 65535 → date_of (suc n) ≡ Ok (day_after a)
next_day n a e h =
    let v = date_accepted n a e in
    rw v.in_month.date (after_in n v.in_month.month v.in_month.inside v.from h)
