-- The dates of the range by their months and days: before April 2038 each date of the calendar from March 1900 on, in that month the first 22.
use Prim.Native.Nat.{ℕ, suc, ◌+◌, ◌-◌, ◌*◌, ◌≤◌, ◌<◌}
use mathlib.Core.Path.{◌≡◌, refl, sym, ap, ◌∙◌}
use mathlib.Core.Bool.{Bool, true, false, ◌||◌}
use native.Mathlib.Decide.{ℕ_discrete}
use native.Mathlib.Omega.{arith}
use lib.Dec.{eqb, leb}
use borrow.Author.Tests.{leb-true, leb-false, le-leb, ne_eqb}
use Rattle.ground_choices.proofs.Tests.{refuted}
use Rattle.time_days.specs.Calendar.{month_length, months_from, month_start, day_number, has_day, day_of}
use Rattle.time_days.proofs.Months.{length_within, days_of_lem, start_first, start_next, start_last, start_le}
use Rattle.time_days.proofs.Answers.{IsDay, day_given, day_accepted}

-- ---- a month's length, by the tests of its number

module _ (y m : ℕ) where
  module _ (h : m ≡ 2 → ⊥) where
    pub thirty : (eqb m 4 || eqb m 6 || eqb m 9 || eqb m 11) ≡ true → 30 ≡ month_length y m
    unfolding month_length
    thirty e = rw (ne_eqb m 2 h, e)

    pub thirty_one : (eqb m 4 || eqb m 6 || eqb m 9 || eqb m 11) ≡ false → 31 ≡ month_length y m
    unfolding month_length
    thirty_one e = rw (ne_eqb m 2 h, e)

-- ---- the dates of the range

module _ (y m d : ℕ) where
  accepted : has_day y m d ≡ true → IsDay (day_number y m d) y m d
  unfolding day_of
  accepted e = day_accepted y m d (day_number y m d) (rw e)

  pub date_not : ((n : ℕ) → IsDay n y m d → ⊥) → false ≡ has_day y m d
  date_not f = refuted (has_day y m d) (λ e. f _ (accepted e))

  date_given : (n : ℕ) → IsDay n y m d → has_day y m d ≡ true
  unfolding day_of
  date_given n v = go (has_day y m d) refl
    where
      go : (t : Bool) → has_day y m d ≡ t → t ≡ true
      go true e = refl
      go false e = absurd (let f = day_given y m d n v in let z : ◌≡◌ {A = ℕ} 0 1 = cc in omega arith)

  module _ (from : 1 ≤ m) (until : m ≤ 12) (some : 1 ≤ d) (after : 1900 * 12 + 3 ≤ y * 12 + m) where
    abbrev k : ℕ
    k = months_from y m

    -- a date of the calendar, whose day is not above the last
    day_of_lem : d ≤ month_length y m → month_start k + (d - 1) ≤ 65535 → has_day y m d ≡ true
    unfolding day_number
    day_of_lem h last =
        date_given (month_start k + (d - 1)) (record {
          month_from = from;
          month_until = until;
          day_from = some;
          day_until = h;
          after = after;
          number = refl;
          from = omega (arith, start_first, start_le 0 k (omega arith));
          until = last;
        })

    pub date_before : (n : ℕ) → n ≡ month_length y m → y * 12 + m < 2038 * 12 + 4 → leb d n ≡ has_day y m d
    unfolding months_from
    date_before n e h = go (leb d n) refl
      where
        go : (t : Bool) → leb d n ≡ t → t ≡ has_day y m d
        go true t =
            let short = leb-true d n t in
            let next = start_next k in
            let size = days_of_lem y m from until after in
            sym (day_of_lem (omega arith) (omega (arith, start_last, start_le (suc k) 1657 (omega arith))))
        go false t = let long = leb-false d n t in date_not (λ j v. let u = v.day_until in omega arith)

    -- April 2038
    pub date_last : y * 12 + m ≡ 2038 * 12 + 4 → leb d 22 ≡ has_day y m d
    unfolding months_from day_number
    date_last e = go (leb d 22) refl
      where
        last : month_start k ≡ 65514
        last = let z : k ≡ 1657 = omega arith in ap month_start z ∙ start_last

        go : (t : Bool) → leb d 22 ≡ t → t ≡ has_day y m d
        go true t = let short = leb-true d 22 t in sym (day_of_lem (omega (arith, length_within y m)) (omega (arith, last)))
        go false t = let long = leb-false d 22 t in date_not (λ j v. let n = v.number in let u = v.until in omega (arith, last))

-- ---- most dates, without the month's own length

module _ (y m : ℕ) where
  -- any month but February has 30 days
  long_month : (m ≡ 2 → ⊥) → 30 ≤ month_length y m
  long_month h = go (eqb m 4 || eqb m 6 || eqb m 9 || eqb m 11) refl
    where
      go : (t : Bool) → (eqb m 4 || eqb m 6 || eqb m 9 || eqb m 11) ≡ t → 30 ≤ month_length y m
      go true e = omega (arith, thirty y m h e)
      go false e = omega (arith, thirty_one y m h e)

  -- from 1901 to 2037 every day until the 28th is a date, and until the 30th where the month is not February
  pub usual_date : (d : ℕ) → 1901 ≤ y → y ≤ 2037 → 1 ≤ m → m ≤ 12 → 1 ≤ d → d ≤ 30 → (m ≡ 2 → d ≤ 28) → has_day y m d ≡ true
  usual_date d from until first last some most short =
      sym (date_before y m d first last some (omega arith) (month_length y m) refl (omega arith)) ∙ le-leb d (month_length y m) within
    where
      within : d ≤ month_length y m
      within = elim (ℕ_discrete m 2) [ yes h ↦ omega (arith, length_within y m, short h) | no h ↦ omega (arith, long_month h) ]
