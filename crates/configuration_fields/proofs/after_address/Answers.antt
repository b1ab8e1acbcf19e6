-- `configuration_fields::after_address` meets its contract: they begin where it ends.
use mathlib.Core.Path.{sym, ◌∙◌}
use Rattle.ground_refusal.proofs.Exits.{passed_on}
use Rattle.configuration_fields.proofs.Answers.{after_address_no, after_address_in, after_address}
use native.Mathlib.Omega.{arith}
use Rattle.configuration_fields.proofs.after_address.Goals as goal

pub overflow_add-result : goal.overflow_add-result
overflow_add-result c = omega (arith, after_address_in _ _ _ _ _ (sym c.in_ok-a.was ∙ c.address_in.ensures))

pub returns-in_err-a : goal.returns-in_err-a
returns-in_err-a c = passed_on c.from_residual.ensures ∙ after_address_no _ _ _ _ (sym c.in_err-a.was ∙ c.address_in.ensures)

pub returns : goal.returns
returns c = after_address _ _ _ _ _ (sym c.in_ok-a.was ∙ c.address_in.ensures)
