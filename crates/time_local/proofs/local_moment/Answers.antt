-- `time_local::local_moment` meets its contract: the seconds of a time of day fit their type.
use mathlib.Core.Path.{sym, ◌∙◌}
use native.Mathlib.Omega.{arith}
use Rattle.time_local.proofs.Clocks.{clock_within}
use Rattle.time_local.proofs.local_moment.Goals as goal

pub overflow_mul-result : goal.overflow_mul-result
overflow_mul-result c = omega (arith, clock_within _ (sym c.is_clock.ensures ∙ c.if-not-is_clock.false))

pub overflow_mul-result-2 : goal.overflow_mul-result-2
overflow_mul-result-2 c = omega (arith, clock_within _ (sym c.is_clock.ensures ∙ c.if-not-is_clock.false))

pub overflow_add-result : goal.overflow_add-result
overflow_add-result c = omega (arith, clock_within _ (sym c.is_clock.ensures ∙ c.if-not-is_clock.false))

pub overflow_add-result-2 : goal.overflow_add-result-2
overflow_add-result-2 c = omega (arith, clock_within _ (sym c.is_clock.ensures ∙ c.if-not-is_clock.false))
