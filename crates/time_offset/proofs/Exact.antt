-- Local time and UTC exactly: either direction answers the moment of the other, and refuses exactly where there is none.
use mathlib.Core.Path.{◌≡◌, refl, sym, ap, ◌∙◌, subst}
use Rattle.std.specs.Prelude.{Result, Ok, Err}
use Rattle.ground_refusal.specs.declared.Refusal.{Refusal}
use mathlib.Core.Bool.{Bool, true, false, cond}
use mathlib.Core.Logic.{◌↔◌}
use Prim.Native.Nat.{ℕ, ◌+◌, ◌/◌, ◌%◌}
use native.Mathlib.Omega.{arith}
use lib.IntN.{ℤ, pos, negsuc, neg_ℤ, ◌+ℤ◌, +ℤ-neg_ℤ_cancel, -ℤ-+ℤ_cancel}
use Rattle.ground_refusal.specs.declared.Refusal.TheVariants.{OutsideSet, ImpossibleDay}
use Rattle.time_fields.specs.declared.Moment.{Moment}
use Rattle.time_fields.specs.Field.{is_instant}
use Rattle.time_fields.proofs.Instants.{instant}
use Rattle.time_offset.specs.Offset.{floor_div, is_offset, minute_moved, day_moved, second_moved, moved, to_utc, to_local, minutes_of, IsLocal}
use Rattle.time_offset.proofs.Signed.{up, down, Difference, same, sum}
use Rattle.time_offset.proofs.Floors.{floors, left_below}
use Rattle.time_offset.proofs.Moving.{arrived, moved_outside, moved_before, moved_to, utc_by, local_by}

-- n is so many minutes after m, both in range
record Later (m n : Moment) (minutes : ℤ) : Type 0 where
  from : is_instant m ≡ true
  to : is_instant n ≡ true
  minutes_are : pos (minutes_of n) ≡ pos (minutes_of m) +ℤ minutes
  seconds_are : n.second % 60 ≡ m.second % 60

-- the day and the second moved to are those of a moment so many minutes later
module _ (m n : Moment) (minutes : ℤ) where
  later_from : day_moved m minutes ≡ pos n.day → second_moved m minutes ≡ n.second
      → is_instant m ≡ true → is_instant n ≡ true → Later m n minutes
  unfolding day_moved second_moved minute_moved
  later_from d s a b =
      let z = pos (m.second / 60) +ℤ minutes in
      let q = floor_div z 1440 in
      let e = subst (λ (y : ℤ). Difference y (m.day + up q) (0 + down q)) d (sum (pos m.day) q) in
      record {
        from = a;
        to = b;
        minutes_are =
            same _ _ (record { is = omega (arith, e, s, sum (pos (m.second / 60)) minutes, floors z, left_below z) })
            (sum (pos (minutes_of m)) minutes);
        seconds_are = omega (arith, s);
      }

  later_to : Later m n minutes → (day_moved m minutes ≡ pos n.day) × (second_moved m minutes ≡ n.second)
  unfolding day_moved second_moved minute_moved
  later_to l =
      let z = pos (m.second / 60) +ℤ minutes in
      let e =
      subst (λ (y : ℤ). Difference y (minutes_of m + up minutes) (0 + down minutes)) (sym l.minutes_are)
      (sum (pos (minutes_of m)) minutes) in
      let i = (instant n l.to).within in
      let s = sum (pos (m.second / 60)) minutes in
      let r = floors z in
      let b = left_below z in (
        same _ _ (sum (pos m.day) (floor_div z 1440)) (record { is = omega arith }),
        omega (arith, l.seconds_are),
      )

-- what a moment moved is answered: there is no third
data Outcome (m : Moment) (minutes : ℤ) : Type 0 where
  there : (n : Moment) → Later m n minutes → moved m minutes ≡ Ok n → Outcome m minutes
  nowhere : moved m minutes ≡ Err (ImpossibleDay 0) → Outcome m minutes

outcome : (m : Moment) (minutes : ℤ) → Outcome m minutes
outcome m minutes = from (is_instant m) refl
  where
    to : (d : ℕ) → is_instant m ≡ true → day_moved m minutes ≡ pos d
        → (t : Bool) → is_instant (arrived d (second_moved m minutes)) ≡ t → Outcome m minutes
    to d a e true b = there (arrived d (second_moved m minutes)) (later_from _ _ _ e refl a b) (moved_to m minutes d a e b)
    to d a e false b = nowhere (moved_to m minutes d a e b)

    on : is_instant m ≡ true → (z : ℤ) → day_moved m minutes ≡ z → Outcome m minutes
    on a (pos d) e = to d a e (is_instant (arrived d (second_moved m minutes))) refl
    on a (negsuc d) e = nowhere (moved_before m minutes d a e)

    from : (t : Bool) → is_instant m ≡ t → Outcome m minutes
    from true a = on a (day_moved m minutes) refl
    from false a = nowhere (moved_outside m minutes a)

moved_later : (m n : Moment) (minutes : ℤ) → moved m minutes ≡ Ok n → Later m n minutes
moved_later m n minutes e = by (outcome m minutes)
  where
    by : Outcome m minutes → Later m n minutes
    by (there k l p) = let q : k ≡ n = cc in subst (λ (x : Moment). Later m x minutes) q l
    by (nowhere p) = let z : ◌≡◌ {A = ℕ} 0 1 = cc in absurd (omega arith)

later_moved : (m n : Moment) (minutes : ℤ) → Later m n minutes → moved m minutes ≡ Ok n
later_moved m n minutes l =
    let d = later_to m n minutes l in
    moved_to m minutes n.day l.from d.0 (ap (λ (s : ℕ). is_instant (arrived n.day s)) d.1 ∙ l.to)
    ∙ ap (λ (s : ℕ). Ok (arrived n.day s)) d.1

-- an answer that tests the offset and then moves is given exactly by the moment so many minutes later
module _ (offset : ℤ) (m : Moment) (minutes : ℤ) (answer : Result Moment Refusal)
    (is : answer ≡ cond (is_offset offset) (moved m minutes) (Err (OutsideSet 0))) where
  by : {t : Bool} → is_offset offset ≡ t → answer ≡ cond t (moved m minutes) (Err (OutsideSet 0))
  by o = is ∙ ap (λ (t : Bool). cond t (moved m minutes) (Err (OutsideSet 0))) o

  answers : {n : Moment} → is_offset offset ≡ true → Later m n minutes → answer ≡ Ok n
  answers {n} o l = by o ∙ later_moved m n minutes l

  answers_only : {n : Moment} → answer ≡ Ok n → (is_offset offset ≡ true) × Later m n minutes
  answers_only {n} e = at (is_offset offset) refl
    where
      at : (t : Bool) → is_offset offset ≡ t → (is_offset offset ≡ true) × Later m n minutes
      at true o = (o, moved_later m n minutes (sym (by o) ∙ e))
      at false o = let z : ◌≡◌ {A = ℕ} 0 1 = cc (by o) in absurd (omega arith)

  answers_none : is_offset offset ≡ true → ((n : Moment) → Later m n minutes → ⊥) → answer ≡ Err (ImpossibleDay 0)
  answers_none o none = at (outcome m minutes)
    where
      at : Outcome m minutes → answer ≡ Err (ImpossibleDay 0)
      at (there n l p) = absurd (none n l)
      at (nowhere p) = by o ∙ p

-- ---- the theorems

module _ (l u : Moment) (offset : ℤ) where
  is_local : is_offset offset ≡ true → Later u l offset → IsLocal l u offset
  is_local o k =
      record { offset_is = o; local_is = k.to; utc_is = k.from; minutes_are = k.minutes_are; seconds_are = k.seconds_are }

  later_back : Later l u (neg_ℤ offset) → Later u l offset
  later_back k =
      record {
        from = k.to;
        to = k.from;
        minutes_are = sym (-ℤ-+ℤ_cancel (pos (minutes_of l)) offset) ∙ ap (λ (z : ℤ). z +ℤ offset) (sym k.minutes_are);
        seconds_are = sym k.seconds_are;
      }

  later_local : IsLocal l u offset → Later u l offset
  later_local i =
      record { from = i.utc_is; to = i.local_is; minutes_are = i.minutes_are; seconds_are = i.seconds_are }

  later_utc : IsLocal l u offset → Later l u (neg_ℤ offset)
  later_utc i =
      record {
        from = i.local_is;
        to = i.utc_is;
        minutes_are = sym (+ℤ-neg_ℤ_cancel (pos (minutes_of u)) offset) ∙ ap (λ (z : ℤ). z +ℤ neg_ℤ offset) (sym i.minutes_are);
        seconds_are = sym i.seconds_are;
      }

  -- local to UTC answers exactly the UTC moment whose local one is given, and UTC to local exactly the local one
  pub utc_exactly : (to_utc l offset ≡ Ok u) ↔ IsLocal l u offset
  utc_exactly = (
    λ e. let a = answers_only offset l (neg_ℤ offset) _ (utc_by l offset refl) e in is_local a.0 (later_back a.1),
    λ i. answers offset l (neg_ℤ offset) _ (utc_by l offset refl) i.offset_is (later_utc i),
  )

  pub local_exactly : (to_local u offset ≡ Ok l) ↔ IsLocal l u offset
  local_exactly = (
    λ e. let a = answers_only offset u offset _ (local_by u offset refl) e in is_local a.0 a.1,
    λ i. answers offset u offset _ (local_by u offset refl) i.offset_is (later_local i),
  )

  -- there and back, for every moment and offset whose two days lie in range
  pub utc_back : to_utc l offset ≡ Ok u → to_local u offset ≡ Ok l
  utc_back e = local_exactly.1 (utc_exactly.0 e)

  pub local_back : to_local u offset ≡ Ok l → to_utc l offset ≡ Ok u
  local_back e = utc_exactly.1 (local_exactly.0 e)

-- at an offset, either direction refuses with 20 where there is no such moment
pub utc_none : (l : Moment) (offset : ℤ) → is_offset offset ≡ true → ((u : Moment) → IsLocal l u offset → ⊥)
    → to_utc l offset ≡ Err (ImpossibleDay 0)
utc_none l offset o none =
    answers_none offset l (neg_ℤ offset) _ (utc_by l offset refl) o (λ u k. none u (is_local l u offset o (later_back l u offset k)))

pub local_none : (u : Moment) (offset : ℤ) → is_offset offset ≡ true → ((l : Moment) → IsLocal l u offset → ⊥)
    → to_local u offset ≡ Err (ImpossibleDay 0)
local_none u offset o none =
    answers_none offset u offset _ (local_by u offset refl) o (λ l k. none l (is_local l u offset o k))
