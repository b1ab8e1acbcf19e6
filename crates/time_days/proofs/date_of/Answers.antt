-- `date_of` meets its contract: a day outside the range is refused, and any other has the date that its month gives it.
use mathlib.Core.Path.{sym, ap, ◌∙◌}
use Rattle.std.specs.Prelude.{Ok}
use Prim.Native.Nat.{ℕ, ◌+◌, ◌-◌}
use native.Mathlib.Omega.{arith}
use Rattle.time_days.specs.Calendar.{year_of, month_of, date_at}
use Rattle.time_days.proofs.Answers.{in_range_only, not_in_range, date_given, date_refused}
use Rattle.time_days.proofs.date_of.Goals as goal

pub returns-then-not-in_range : goal.returns-then-not-in_range
returns-then-not-in_range c = sym (date_refused _ (not_in_range _ (sym c.in_range.ensures ∙ c.if-not-in_range.true)))

pub month_of-k-requires : goal.month_of-k-requires
month_of-k-requires c = let w = in_range_only _ (sym c.in_range.ensures ∙ c.if-not-in_range.false) in
    (c.month_starts-starts.ensures, w.0, w.1)

pub overflow_add-result-5 : goal.overflow_add-result-5
overflow_add-result-5 c = let w = in_range_only _ (sym c.in_range.ensures ∙ c.if-not-in_range.false) in omega arith

pub returns : goal.returns
unfolding year_of month_of
returns c = let w = in_range_only _ (sym c.in_range.ensures ∙ c.if-not-in_range.false) in
    ap (λ (s : ℕ). Ok (date_at c.month_of-k.result (c.args.day - s + 1))) c.start_of-start.ensures
    ∙ sym (date_given _ _ w.0 w.1 (record { from = omega arith; until = omega arith }))
