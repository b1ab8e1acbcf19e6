-- `body_pen::pen_digits` meets its contract: its tests are those of the form, and as many bytes are counted as stand in the pool.
use mathlib.Core.Path.{◌∙◌}
use Rattle.ground_refusal.proofs.Exits.{passed_on}
use Rattle.body_pen.proofs.Leaves.{stopped}
use Rattle.body_pen.proofs.Strings.{digits_refused, digits_length, digits_first, digits_later, digits_passed}
use Rattle.ground_choices.proofs.Tests.{met, unmet}
use native.Mathlib.Omega.{arith}
use Rattle.body_pen.proofs.pen_digits.Goals as goal

pub returns-in_err-size : goal.returns-in_err-size
returns-in_err-size c = passed_on c.from_residual.ensures ∙ stopped _ _ _ _ _ c.in_err-size.was

pub returns-in_err-a : goal.returns-in_err-a
returns-in_err-a c = passed_on c.from_residual-in_err-a.ensures ∙
    digits_refused _ _ _ _ _ _ c.in_ok-size.was _ (c.span_at.ensures.0 _ c.in_err-a.was)

pub returns-then-n-h : goal.returns-then-n-h
returns-then-n-h c = let s = c.span_at.ensures.1 _ _ c.in_ok-a.was in
    digits_length _ _ _ _ _ _ c.in_ok-size.was _ _ s.1 s.2 (λ g. omega (arith, g))

pub returns-then-n-h-gt1 : goal.returns-then-n-h-gt1
returns-then-n-h-gt1 c = let s = c.span_at.ensures.1 _ _ c.in_ok-a.was in
    digits_length _ _ _ _ _ _ c.in_ok-size.was _ _ s.1 s.2 (λ g. omega (arith, g))

pub bounds-pool-a : goal.bounds-pool-a
bounds-pool-a c = omega (arith, (c.span_at.ensures.1 _ _ c.in_ok-a.was).1)

pub returns-then-low-gt9 : goal.returns-then-low-gt9
returns-then-low-gt9 c = let s = c.span_at.ensures.1 _ _ c.in_ok-a.was in
    digits_first _ _ _ _ _ _ c.in_ok-size.was _ _ s.1 s.2 (omega arith) (omega (arith, c.wide-low.ensures.0))

pub overflow_add-a : goal.overflow_add-a
overflow_add-a c = omega (arith, (c.span_at.ensures.1 _ _ c.in_ok-a.was).1, c.well_formed.0.1)

pub all_decimal-requires : goal.all_decimal-requires
all_decimal-requires c = omega (arith, (c.span_at.ensures.1 _ _ c.in_ok-a.was).1)

pub returns-then-not-all_decimal : goal.returns-then-not-all_decimal
returns-then-not-all_decimal c = let s = c.span_at.ensures.1 _ _ c.in_ok-a.was in
    digits_later _ _ _ _ _ _ c.in_ok-size.was _ _ s.1 s.2 (omega arith) (omega (arith, c.wide-low.ensures.0))
    (unmet _ c.all_decimal.ensures c.if-not-all_decimal.true-raw)

pub overflow_add-result : goal.overflow_add-result
overflow_add-result c = omega (arith, (c.span_at.ensures.1 _ _ c.in_ok-a.was).0, c.well_formed.1.0.1)

pub returns : goal.returns
returns c = let s = c.span_at.ensures.1 _ _ c.in_ok-a.was in
    digits_passed _ _ _ _ _ _ c.in_ok-size.was _ _ s.1 s.2 (omega (arith, c.if-n-h.false, c.if-n-h-gt1.false))
    (omega (arith, c.wide-low.ensures.0)) (met _ c.all_decimal.ensures c.if-not-all_decimal.false-raw) _ c.grown.ensures
