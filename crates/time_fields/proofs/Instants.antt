-- An instant: a day of the range and a second that a day has; and which of two comes first.
use mathlib.Core.Path.{◌≡◌, refl, sym}
use mathlib.Core.Bool.{Bool, true, false, cond}
use Prim.Native.Nat.{ℕ, ◌+◌, ◌*◌, ◌≤◌, ◌<◌}
use native.Mathlib.Omega.{arith}
use lib.Dec.{ltb, eqb}
use borrow.Author.Tests.{le-leb, leb-true, lt-ltb, le-ltb, ltb-true, ltb-false, eqb-true, eqb-false}
use Rattle.time_fields.specs.declared.Moment.{Moment}
use Rattle.time_days.specs.Calendar.{in_range}
use Rattle.time_fields.specs.Field.{is_instant}
use Rattle.time_fields.specs.Showing.{earlier}
use Rattle.ground_choices.proofs.Tests.{both, and_of}

-- a day of the range and a second that a day has
pub record Instant (m : Moment) : Type 0 where
  pub from : 15079 ≤ m.day
  pub until : m.day ≤ 65535
  pub within : m.second < 86400

pub instant : (m : Moment) → is_instant m ≡ true → Instant m
unfolding is_instant in_range
instant m e =
    let i = both _ _ e in
    let d = both _ _ i.0 in
    let w : m.second ≤ 86399 = leb-true _ _ i.1 in
    record { from = leb-true _ _ d.0; until = leb-true _ _ d.1; within = omega arith }

pub day_in_range : (m : Moment) → Instant m → in_range m.day ≡ true
unfolding in_range
day_in_range m i = and_of (le-leb _ _ i.from) (le-leb _ _ i.until)

pub is_instant_lem : (m : Moment) → Instant m → is_instant m ≡ true
unfolding is_instant
is_instant_lem m i = and_of (day_in_range m i) (le-leb m.second 86399 (omega arith))

-- the seconds of a moment, counted from the start of day 0
abbrev pub count : Moment → ℕ
count m = m.day * 86400 + m.second

-- two tests that hold together and fail together
alike : (a b c d : ℕ) → (a < b → c < d) → (b ≤ a → d ≤ c) → (t : Bool) → ltb a b ≡ t → t ≡ ltb c d
alike a b c d holds fails true e = sym (lt-ltb c d (holds (ltb-true a b e)))
alike a b c d holds fails false e = sym (le-ltb c d (fails (ltb-false a b e)))

-- the order of moments is that of their counted seconds
pub earlier_count : (a b : Moment) → a.second < 86400 → b.second < 86400 → earlier a b ≡ ltb (count a) (count b)
unfolding earlier
earlier_count a b p q = by_day (eqb a.day b.day) (eqb-true _ _) (eqb-false _ _)
  where
    by_day : (t : Bool) → (t ≡ true → a.day ≡ b.day) → (t ≡ false → a.day ≡ b.day → ⊥)
        → cond t (ltb a.second b.second) (ltb a.day b.day) ≡ ltb (count a) (count b)
    by_day true same other =
        let d = same refl in
        alike a.second b.second (count a) (count b) (λ h. omega arith) (λ h. omega arith) _ refl
    by_day false same other =
        let d = other refl in
        alike a.day b.day (count a) (count b) (λ h. omega arith) (λ h. omega arith) _ refl
