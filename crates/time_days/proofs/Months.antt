-- The laws of months and their starts: a month's length, the order of the starts, and that a day lies in one month.
use mathlib.Core.Path.{◌≡◌, refl, ap₂}
use mathlib.Core.Bool.{Bool, true, false, ◌||◌, cond}
use mathlib.Core.Logic.{◌⊎◌, inl, inr}
use Prim.Native.Nat.{ℕ, zero, suc, ◌+◌, ◌-◌, ◌*◌, ◌≤◌, ◌<◌}
use native.Mathlib.Nat.{le_refl}
use native.Mathlib.Decide.{dec_le}
use native.Mathlib.Omega.{arith}
use lib.Dec.{eqb, lit≤}
use Rattle.time_days.specs.Calendar.{leap, month_length, months_from, year_of, month_of, days_of, month_start}

-- ---- a month's length

cond_within : (b : Bool) (x y low high : ℕ) → (low ≤ x) × (x ≤ high) → (low ≤ y) × (y ≤ high) → (low ≤ cond b x y) × (cond b x y ≤ high)
cond_within true x y low high p q = p
cond_within false x y low high p q = q

pub length_within : (y m : ℕ) → (28 ≤ month_length y m) × (month_length y m ≤ 31)
unfolding month_length
length_within y m =
    cond_within (eqb m 2) _ _ 28 31
    (cond_within (leap y) 29 28 28 31 (lit≤ tt, lit≤ tt) (lit≤ tt, lit≤ tt))
    (cond_within (eqb m 4 || eqb m 6 || eqb m 9 || eqb m 11) 30 31 28 31 (lit≤ tt, lit≤ tt) (lit≤ tt, lit≤ tt))

pub days_within : (k : ℕ) → (28 ≤ days_of k) × (days_of k ≤ 31)
unfolding days_of
days_within k = length_within (year_of k) (month_of k)

-- ---- months counted from March 1900

pub within : (k : ℕ) → (1 ≤ month_of k) × (month_of k ≤ 12) × (1900 * 12 + 3 ≤ year_of k * 12 + month_of k)
unfolding year_of month_of
within k = omega arith

pub months_of : (k : ℕ) → months_from (year_of k) (month_of k) ≡ k
unfolding months_from year_of month_of
months_of k = omega arith

pub of_months : (y m : ℕ) → 1 ≤ m → m ≤ 12 → 1900 * 12 + 3 ≤ y * 12 + m → (year_of (months_from y m) ≡ y) × (month_of (months_from y m) ≡ m)
unfolding months_from year_of month_of
of_months y m h g a = omega arith

pub days_of_lem : (y m : ℕ) → 1 ≤ m → m ≤ 12 → 1900 * 12 + 3 ≤ y * 12 + m → days_of (months_from y m) ≡ month_length y m
unfolding days_of
days_of_lem y m h g a = let e = of_months y m h g a in ap₂ month_length e.0 e.1

-- the month after month k
pub following : (k : ℕ) → ((month_of k < 12) × (year_of (suc k) ≡ year_of k) × (month_of (suc k) ≡ month_of k + 1)) ⊎ ((month_of k ≡ 12) × (year_of (suc k) ≡ year_of k + 1) × (month_of (suc k) ≡ 1))
unfolding year_of month_of
following k = elim (dec_le (month_of k) 11) [ yes h ↦ inl (omega arith) | no h ↦ inr (omega arith) ]

-- ---- their starts

pub start_first : month_start 0 ≡ 15079
unfolding month_start
start_first = refl

pub start_next : (k : ℕ) → month_start (suc k) ≡ month_start k + days_of k
unfolding month_start
start_next k = refl

-- April 2038, the table's last month, and the month after it
pub start_last : month_start 1657 ≡ 65514
unfolding month_start days_of month_length leap year_of month_of
start_last = refl

pub start_end : month_start 1658 ≡ 65544
unfolding month_start days_of month_length leap year_of month_of
start_end = refl

start_more : (i j : ℕ) → month_start i ≤ month_start (i + j)
start_more i zero = let e : i + 0 ≡ i = omega arith in rw e (le_refl (month_start i))
start_more i (suc j) =
    let e : i + suc j ≡ suc (i + j) = omega arith in
    rw e (omega (arith, start_more i j, start_next (i + j)))

pub start_le : (i j : ℕ) → i ≤ j → month_start i ≤ month_start j
start_le i j h = let e : i + (j - i) ≡ j = omega arith in rw e at (start_more i (j - i))

-- the starts increase
pub start_lt : (i j : ℕ) → i < j → month_start i < month_start j
start_lt i j h = omega (arith, start_next i, days_within i, start_le (suc i) j h)

-- ---- the month of a day

pub record InMonth (n k : ℕ) : Type 0 where
  pub from : month_start k ≤ n
  pub until : n < month_start (suc k)

not_before : (n i j : ℕ) → InMonth n i → InMonth n j → i ≤ j
not_before n i j p q = elim (dec_le i j) [ yes h ↦ h | no h ↦ absurd (omega (arith, start_le (suc j) i (omega arith))) ]

-- a day lies in one month only
pub one_month : (n i j : ℕ) → InMonth n i → InMonth n j → i ≡ j
one_month n i j p q = omega (arith, not_before n i j p q, not_before n j i q p)

-- a day of the range lies in a month of the table
pub in_table : (n k : ℕ) → InMonth n k → n ≤ 65535 → k < 1658
in_table n k p h = elim (dec_le k 1657) [ yes g ↦ omega arith | no g ↦ absurd (omega (arith, start_end, start_le 1658 k (omega arith))) ]
