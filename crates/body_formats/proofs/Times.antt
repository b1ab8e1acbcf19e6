-- The laws of time fields: whether a number is a time does not depend on its place.
use Prim.Native.Nat.{ℕ, ◌^◌}
use Rattle.std.specs.Prelude.{Result, Ok, Err, None}
use Rattle.ground_refusal.specs.declared.Refusal.{Refusal}
use mathlib.Core.Path.{◌≡◌, refl}
use mathlib.Core.Bool.{Bool, true, false, not, cond}
use lib.Dec.{leb, eqb}
use Rattle.ground_refusal.specs.declared.Refusal.TheVariants.{DigitAboveNine, OutsideSet, ImpossibleDay}
use Rattle.time_fields.specs.Field.{read_time, read_end, is_decimal, possible, moment_of, live_mark, as_end}
use Rattle.time_fields.specs.declared.Moment.{Moment}
use Rattle.body_formats.specs.Reading.{is_fine}
use Rattle.body_formats.specs.Format.{number}
use Rattle.body_formats.specs.Time.{time_fault, end_fault, time, end_time}
use Rattle.body_formats.proofs.Classes.{Lawful}
use Rattle.body_formats.proofs.Parts.{only_lawful, number_lawful}

-- the answer at a place, by the three tests
answer : Bool → Bool → Bool → Moment → ℕ → Result Moment Refusal
answer a b c m p = cond a (Err (OutsideSet p)) (cond b (Err (DigitAboveNine p)) (cond c (Err (ImpossibleDay p)) (Ok m)))

tests_even : (a b c : Bool) (m : Moment) (p : ℕ)
    → (is_fine (time_fault (answer a b c m p)) ≡ is_fine (time_fault (answer a b c m 0)))
    × (is_fine (end_fault (as_end (answer a b c m p))) ≡ is_fine (end_fault (as_end (answer a b c m 0))))
unfolding answer
tests_even true b c m p = (refl, refl)
tests_even false true c m p = (refl, refl)
tests_even false false true m p = (refl, refl)
tests_even false false false m p = (refl, refl)

time_even : (f p : ℕ)
    → (is_fine (time_fault (read_time f p)) ≡ is_fine (time_fault (read_time f 0)))
    × (is_fine (end_fault (as_end (read_time f p))) ≡ is_fine (end_fault (as_end (read_time f 0))))
unfolding read_time answer
time_even f p = tests_even (leb (2 ^ 40) f) (not (is_decimal f)) (not (possible f)) (moment_of f) p

end_even : (f p : ℕ) → is_fine (end_fault (read_end f p)) ≡ is_fine (end_fault (read_end f 0))
unfolding read_end
end_even f p = go (eqb f live_mark)
  where
    go : (t : Bool) → is_fine (end_fault (cond t (Ok None) (as_end (read_time f p)))) ≡ is_fine (end_fault (cond t (Ok None) (as_end (read_time f 0))))
    go true = refl
    go false = (time_even f p).1

pub time_lawful : Lawful time
unfolding time
time_lawful = only_lawful (λ f at. time_fault (read_time f at)) (number 5) (λ f p. (time_even f p).0) (number_lawful 5)

pub end_lawful : Lawful end_time
unfolding end_time
end_lawful = only_lawful (λ f at. end_fault (read_end f at)) (number 5) end_even (number_lawful 5)
