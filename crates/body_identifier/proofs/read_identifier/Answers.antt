-- `body_identifier::read_identifier` meets its contract: where the digits are there, their day decides.
use mathlib.Core.Path.{sym, ◌∙◌}
use native.Mathlib.Omega.{arith}
use Rattle.ground_refusal.proofs.Exits.{passed_on}
use Rattle.body_formats.proofs.Identifiers.{digits_there, identifier_no, identifier_unreal, identifier_real}
use Rattle.body_identifier.proofs.Days.{part_decimal}
use Rattle.body_identifier.proofs.read_identifier.Goals as goal

pub has_decimal_day-requires : goal.has_decimal_day-requires
has_decimal_day-requires c = let d = digits_there _ _ _ (λ i. (c.type_inv.s i).fits) _ _ (sym c.in_ok-a.was ∙ c.read_digits.ensures) in
    (omega (arith, d.0, d.1, d.2), part_decimal _ _ _ _ _ (sym c.in_ok-a.was ∙ c.read_digits.ensures))

pub returns-then-has_decimal_day : goal.returns-then-has_decimal_day
returns-then-has_decimal_day c = identifier_real _ _ _ (λ i. (c.type_inv.s i).fits) _ _ (sym c.in_ok-a.was ∙ c.read_digits.ensures)
    (sym c.has_decimal_day.ensures ∙ c.if-has_decimal_day.true)

pub returns-in_err-a : goal.returns-in_err-a
returns-in_err-a c = passed_on c.from_residual.ensures ∙ identifier_no _ _ _ _ (sym c.in_err-a.was ∙ c.read_digits.ensures)

pub returns : goal.returns
returns c = identifier_unreal _ _ _ (λ i. (c.type_inv.s i).fits) _ _ (sym c.in_ok-a.was ∙ c.read_digits.ensures)
    (sym c.has_decimal_day.ensures ∙ c.if-has_decimal_day.false)
