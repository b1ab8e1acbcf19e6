-- `configuration_writer::measuring::pen_address_bytes` meets its contract: its tests are those of the form, and the bytes of the pool are counted.
use mathlib.Core.Path.{sym, ap, ◌∙◌}
use Rattle.ground_choices.proofs.Tests.{met, unmet}
use Rattle.ground_refusal.proofs.Exits.{passed_on}
use Rattle.body_formats.specs.Format.{rest}
use Rattle.body_pen.specs.Penned.{penned}
use Rattle.body_pen.proofs.Leaves.{stopped}
use Rattle.configuration_writer.proofs.Judged.{address_none, address_length_lem, address_outside, address_passed}
use Rattle.configuration_writer.proofs.measuring.pen_address_bytes.Goals as goal

pub returns-in_err-size : goal.returns-in_err-size
returns-in_err-size c = passed_on c.from_residual.ensures ∙ stopped _ _ _ _ _ c.in_err-size.was

pub returns-in_err-a : goal.returns-in_err-a
returns-in_err-a c = passed_on c.from_residual-in_err-a.ensures
    ∙ address_none _ _ _ _ _ _ c.in_ok-size.was _ (c.span_at.ensures.0 _ c.in_err-a.was)

pub returns-then-not-length_fits : goal.returns-then-not-length_fits
returns-then-not-length_fits c = let s = c.span_at.ensures.1 _ _ c.in_ok-a.was in
    address_length_lem _ _ _ _ _ _ c.in_ok-size.was _ _ s.1 s.2 (unmet _ c.length_fits.ensures c.if-not-length_fits.true-raw)

pub is_address-requires : goal.is_address-requires
is_address-requires c = (c.span_at.ensures.1 _ _ c.in_ok-a.was).1

pub returns-then-not-is_address : goal.returns-then-not-is_address
returns-then-not-is_address c = let s = c.span_at.ensures.1 _ _ c.in_ok-a.was in
    address_outside _ _ _ _ _ _ c.in_ok-size.was _ _ s.1 s.2 (met _ c.length_fits.ensures c.if-not-length_fits.false-raw)
    (unmet _ c.is_address.ensures c.if-not-is_address.true-raw)

pub returns : goal.returns
returns c = let s = c.span_at.ensures.1 _ _ c.in_ok-a.was in
    c.pen_rest.ensures ∙ ap (penned rest _ _) c.in_ok-size.was
    ∙ sym (address_passed _ _ _ _ _ _ c.in_ok-size.was _ _ s.1 s.2 (met _ c.length_fits.ensures c.if-not-length_fits.false-raw)
    (met _ c.is_address.ensures c.if-not-is_address.false-raw))
