-- An identifier's real day: the calendar's test of a date holds exactly if some day of the range has it.
use Prim.Native.Nat.{ℕ}
use Rattle.std.specs.Prelude.{Ok}
use mathlib.Core.Path.{◌≡◌, refl}
use mathlib.Core.Bool.{Bool, true, false}
use mathlib.Core.List.{List}
use native.Mathlib.Omega.{arith}
use lib.ListN.{length}
use borrow.Author.Tests.{eq-eqb}
use Rattle.ground_choices.proofs.Tests.{and_of}
use Rattle.time_days.specs.Calendar.{day_number, has_day, day_of, date_of}
use Rattle.time_days.proofs.Theorems.{date_of_day, day_of_date}
use Rattle.body_formats.specs.Format.{decimal, only, digits}
use Rattle.body_formats.specs.Identifier.{has_real_day, identifier}
use Rattle.body_formats.proofs.Identifiers.{identifier_digits, identifier_day_lem}
use Rattle.promises.specs.Demand2.{RealDays}

module _ (y m d : ℕ) where
  has_date : has_day y m d ≡ true → (n : ℕ) × (date_of n ≡ Ok (record { year = y; month = m; day = d }))
  unfolding day_of
  has_date e = (day_number y m d, date_of_day y m d (day_number y m d) (rw e))

  of_date : (n : ℕ) → date_of n ≡ Ok (record { year = y; month = m; day = d }) → has_day y m d ≡ true
  unfolding day_of
  of_date n e = go (has_day y m d) refl
    where
      go : (t : Bool) → has_day y m d ≡ t → t ≡ true
      go true h = refl
      go false h = absurd (let f = day_of_date n (record { year = y; month = m; day = d }) e in let z : ◌≡◌ {A = ℕ} 0 1 = cc in omega arith)

sent : (ds : List ℕ) → length ds ≡ 35 → decimal ds ≡ true → has_real_day ds ≡ true → identifier.writable ds ≡ true
unfolding identifier only digits
sent ds many right real = and_of (and_of (eq-eqb (length ds) 35 many) right) (rw real)

pub real_days : RealDays
unfolding has_real_day identifier only
real_days =
    record {
      sent_exactly = λ ds. (
        λ e. let right = identifier_digits ds e in (right.0, right.1, has_date _ _ _ (identifier_day_lem ds e)),
        λ x. sent ds x.0 x.1 (of_date _ _ _ x.2.0 x.2.1),
      );
      read_judged = λ s l p. refl;
      form_judged = λ pool tape k. refl;
    }
