-- `time_offset::later` meets its contract: its signed steps are known as the definition's numbers, and it tests both moments as the definition does.
use borrow.Author.Rules.{rules}
use Rattle.std.specs.Prelude.{Ok, Err}
use borrow.Author.Tests.{not-true, not-false}
use mathlib.Core.Path.{◌≡◌, sym, ap, ◌∙◌}
use mathlib.Core.Bool.{Bool, true, cond}
use Prim.Native.Nat.{ℕ, ◌+◌, ◌*◌, ◌/◌, ◌%◌, ◌<◌, ◌^◌}
use native.Mathlib.Omega.{arith}
use lib.IntN.{ℤ, pos, ◌+ℤ◌, nat_abs}
use lib.Signed.{mag}
use mir.Syntax.{w32}
use mir.Val.{SFits, to_z, of_z}
use mir.Facts.{to_z-of_z, to_z_pos}
use Rattle.ground_refusal.specs.declared.Refusal.TheVariants.{ImpossibleDay}
use Rattle.time_fields.specs.declared.Moment.{Moment}
use Rattle.time_fields.specs.Field.{is_instant}
use Rattle.ground_choices.proofs.Tests.{met, unmet}
use Rattle.time_fields.proofs.Instants.{Instant, instant}
use Rattle.time_offset.specs.declared.Floored.{Floored}
use Rattle.time_offset.specs.Offset.{floor_div, floor_mod, minute_moved, day_moved, second_moved, moved}
use Rattle.time_offset.proofs.Signed.{Known, known, unsigned}
use Rattle.time_offset.proofs.Floors.{left_below}
use Rattle.time_offset.proofs.Moving.{minute_size, days_size, day_to, day_to_lem, day_small, arrived, moved_outside, moved_to}
use Rattle.time_offset.proofs.later.Statement.{statement}
use Rattle.time_offset.proofs.later.Tie as tie

-- the sums of the code: the minutes that are floored, and the day
abbrev total : Moment → ℤ → ℤ
total m minutes = to_z w32 (m.second / 60) +ℤ to_z w32 (of_z w32 minutes)

abbrev day : Moment → Floored → ℤ
day m q = to_z w32 m.day +ℤ to_z w32 (of_z w32 q.days)

abbrev to : Moment → Floored → Moment
to m q = arrived (nat_abs (to_z w32 (of_z w32 (day m q)))) (q.minute * 60 + m.second % 60)

record Carried (m : Moment) (minutes : ℤ) (q : Floored) : Type 0 where
  day_known : Known w32 (day m q) (pos (day_to m minutes))
  day_fits : day_to m minutes < 2 ^ 32
  minute_small : q.minute < 1440
  is : to m q ≡ arrived (day_to m minutes) (second_moved m minutes)

module _ (m : Moment) (minutes : ℤ) (f : SFits w32 minutes) (short : mag minutes < 1440) (i : Instant m) where
  total_known : Known w32 (total m minutes) (minute_moved m minutes)
  unfolding minute_moved
  total_known =
      known
      (ap (λ (z : ℤ). z +ℤ to_z w32 (of_z w32 minutes)) (to_z_pos w32 (omega arith))
      ∙ ap (λ (z : ℤ). pos (m.second / 60) +ℤ z) (to_z-of_z f))
      (omega (arith, minute_size m minutes i short))

  carried : (q : Floored)
      → (q.days ≡ floor_div (to_z w32 (of_z w32 (total m minutes))) 1440)
      × (q.minute ≡ floor_mod (to_z w32 (of_z w32 (total m minutes))) 1440)
      → Carried m minutes q
  unfolding day_moved second_moved
  carried q e =
      let days : Known w32 q.days (floor_div (minute_moved m minutes) 1440) =
      known (e.0 ∙ ap (λ (z : ℤ). floor_div z 1440) total_known.back) (omega (arith, days_size m minutes i short)) in
      let d : Known w32 (day m q) (pos (day_to m minutes)) =
      known
      (ap (λ (z : ℤ). z +ℤ to_z w32 (of_z w32 q.days)) (to_z_pos w32 (omega arith))
      ∙ ap (λ (z : ℤ). pos m.day +ℤ z) days.back
      ∙ day_to_lem m minutes i short)
      (day_small m minutes i short) in
      let minute : q.minute ≡ floor_mod (minute_moved m minutes) 1440 =
      e.1 ∙ ap (λ (z : ℤ). floor_mod z 1440) total_known.back in
      record {
        day_known = d;
        day_fits = omega (arith, d.small);
        minute_small = omega (arith, minute, left_below (minute_moved m minutes));
        is =
            ap (λ (z : ℤ). arrived (nat_abs z) (q.minute * 60 + m.second % 60)) d.back
            ∙ ap (λ (n : ℕ). arrived (day_to m minutes) (n * 60 + m.second % 60)) minute;
      }

-- where the first test has passed
here : (c : tie.Else-not-is_instant) → (is_instant c.before.before.args.m ≡ true) × Instant c.before.before.args.m
here c = let e = met _ c.before.is_instant.ensures c.if-not-is_instant.false-raw in (e, instant _ e)

module _ (c : tie.After-floor-carried) where
  abbrev start : tie.Start
  start = search

  there : Carried start.args.m start.args.minutes c.floor-carried.result
  there =
      carried start.args.m start.args.minutes start.ranges.minutes start.requires (here (search)).1
      c.floor-carried.result
      c.floor-carried.ensures

  -- what is answered, by the second test
  answer : {r t : Bool} → r ≡ is_instant (to start.args.m c.floor-carried.result) → r ≡ t
      → cond t (Ok (to start.args.m c.floor-carried.result)) (Err (ImpossibleDay 0)) ≡ moved start.args.m start.args.minutes
  answer {t = t} p e =
      let i = here (search) in
      ap (λ (m : Moment). cond t (Ok m) (Err (ImpossibleDay 0))) there.is
      ∙ sym (moved_to _ _ _ i.0 (day_to_lem _ _ i.1 start.requires) (ap is_instant (sym there.is) ∙ sym p ∙ e))

pub later_spec : {M : Type 1} → statement M
later_spec =
    tie.close
    (tie.spec
    (λ c κs. search rules)
    (λ c. sym (moved_outside _ _ (unmet _ c.before.is_instant.ensures c.if-not-is_instant.true-raw)))
    (λ c. search rules)
    (λ c. (total_known _ _ c.before.before.before.ranges.minutes c.before.before.before.requires (here c.before).1).fits)
    (λ c κs. search rules)
    (λ c. record { sfits = omega (arith, (here (search)).1) })
    (λ c. (there (search)).day_known.fits)
    (λ c. unsigned (there (search)).day_known (there (search)).day_fits)
    (λ c. omega (arith, there (search)))
    (λ c. omega (arith, there (search)))
    (λ c κs. search rules)
    (λ c. answer (search) c.before.is_instant-2.ensures (not-true _ c.if-not-is_instant-2.true-raw))
    (λ c. answer (search) c.before.is_instant-2.ensures (not-false _ c.if-not-is_instant-2.false-raw)))
