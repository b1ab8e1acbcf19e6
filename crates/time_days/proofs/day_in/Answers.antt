-- `day_in` meets its contract: a day past the month's end, or the range's, is no day of it, and any other is counted from the month's start.
use mathlib.Core.Path.{sym, ap, ◌∙◌}
use Rattle.std.specs.Prelude.{Ok}
use Prim.Native.Nat.{ℕ, suc, ◌+◌, ◌-◌, ◌≤◌}
use native.Mathlib.Nat.{le-min, min-le_left, min-le_right}
use native.Mathlib.Omega.{arith}
use Rattle.time_days.specs.Calendar.{month_start}
use Rattle.time_days.proofs.Months.{start_last, start_le}
use Rattle.time_days.proofs.Answers.{day_in_given, day_in_refused}
use Rattle.time_days.proofs.day_in.Goals as goal

pub overflow_sub-month_end : goal.overflow_sub-month_end
overflow_sub-month_end c = let k = c.args.k in
    let h : month_start k ≤ 65536 = omega (arith, start_last, start_le k 1657 (omega arith)) in
    omega (arith, le-min (start_le k (suc k) (omega arith)) h)

pub returns-then-month_end-start : goal.returns-then-month_end-start
returns-then-month_end-start c = sym (day_in_refused _ _ (λ h g. omega (arith, le-min h g)))

pub returns : goal.returns
returns c = let k = c.args.k in
    ap (λ (n : ℕ). Ok (n + (c.args.day - 1))) c.start_of-start.ensures
    ∙ sym (day_in_given k _ (omega arith) (omega (arith, min-le_left (month_start (suc k)) 65536)) (omega (arith, min-le_right (month_start (suc k)) 65536)))
