-- `month_end` meets its contract: a month ends where the next one starts, and of the table's months only the last one passes the range.
use mathlib.Core.Path.{◌≡◌, sym, ap, ◌∙◌}
use Prim.Native.Nat.{suc}
use native.Mathlib.Nat.{min-eq_left, min-eq_right}
use native.Mathlib.Numerals.{add-one}
use native.Mathlib.Omega.{arith}
use Rattle.time_days.specs.Calendar.{month_start}
use Rattle.time_days.proofs.Months.{start_last, start_end, start_le}
use Rattle.time_days.proofs.month_end.Goals as goal

pub returns-then-next-eq-MONTHS : goal.returns-then-next-eq-MONTHS
returns-then-next-eq-MONTHS c = let e : suc c.args.k ≡ 1658 = omega arith in
    sym (min-eq_right (omega (arith, start_end, ap month_start e)))

pub returns : goal.returns
returns c = let k = c.args.k in
    c.start_of.ensures ∙ ap month_start (add-one k) ∙ sym (min-eq_left (omega (arith, start_last, start_le (suc k) 1657 (omega arith))))
