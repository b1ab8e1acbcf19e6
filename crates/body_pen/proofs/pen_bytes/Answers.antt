-- `body_pen::pen_bytes` meets its contract: its tests are those of the form, and the bytes of the pool are counted.
use mathlib.Core.Path.{◌∙◌}
use Rattle.ground_refusal.proofs.Exits.{passed_on}
use Rattle.body_pen.proofs.Leaves.{stopped}
use Rattle.body_pen.proofs.Strings.{bytes_refused, bytes_length, bytes_outside, bytes_passed}
use Rattle.ground_choices.proofs.Tests.{met, unmet}
use native.Mathlib.Omega.{arith}
use Rattle.body_pen.proofs.pen_bytes.Goals as goal

pub returns-in_err-size : goal.returns-in_err-size
returns-in_err-size c = passed_on c.from_residual.ensures ∙ stopped _ _ _ _ _ c.in_err-size.was

pub returns-in_err-a : goal.returns-in_err-a
returns-in_err-a c = passed_on c.from_residual-in_err-a.ensures ∙
    bytes_refused _ _ _ _ _ _ _ _ c.in_ok-size.was _ (c.span_at.ensures.0 _ c.in_err-a.was)

pub returns-then-m-n : goal.returns-then-m-n
returns-then-m-n c = let s = c.span_at.ensures.1 _ _ c.in_ok-a.was in
    bytes_length _ _ _ _ _ _ _ _ c.in_ok-size.was _ _ s.1 s.2 (λ g. omega arith)

pub all_among-requires : goal.all_among-requires
all_among-requires c = (c.span_at.ensures.1 _ _ c.in_ok-a.was).1

pub returns-then-not-all_among : goal.returns-then-not-all_among
returns-then-not-all_among c = let s = c.span_at.ensures.1 _ _ c.in_ok-a.was in
    bytes_outside _ _ _ _ _ _ _ _ c.in_ok-size.was _ _ s.1 s.2 (omega arith)
    (unmet _ c.all_among.ensures c.if-not-all_among.true-raw)

pub overflow_add-result : goal.overflow_add-result
overflow_add-result c = omega (arith, (c.span_at.ensures.1 _ _ c.in_ok-a.was).0, c.well_formed.1.0.1)

pub returns : goal.returns
returns c = let s = c.span_at.ensures.1 _ _ c.in_ok-a.was in
    bytes_passed _ _ _ _ _ _ _ _ c.in_ok-size.was _ _ s.1 s.2 (omega arith) (met _ c.all_among.ensures c.if-not-all_among.false-raw) _
    c.grown.ensures
