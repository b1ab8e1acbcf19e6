-- `index_fields::resource_digit` meets its contract: it stands where the resource begins.
use mathlib.Core.Path.{sym, ◌∙◌}
use Rattle.ground_refusal.proofs.Exits.{passed_on}
use Rattle.index_fields.proofs.Answers.{resource_in, resource_digit_no, resource_digit_lem}
use native.Mathlib.Omega.{arith}
use Rattle.index_fields.proofs.resource_digit.Goals as goal

pub overflow_add-at : goal.overflow_add-at
overflow_add-at c = omega (arith, resource_in _ _ _ _ _ _ (sym c.in_ok-m.was ∙ c.resource_at.ensures))

pub returns-in_err-m : goal.returns-in_err-m
returns-in_err-m c = passed_on c.from_residual.ensures ∙ resource_digit_no _ _ _ _ _ (sym c.in_err-m.was ∙ c.resource_at.ensures) _

pub returns : goal.returns
returns c = c.digit_at.ensures ∙ resource_digit_lem _ _ _ _ _ _ (sym c.in_ok-m.was ∙ c.resource_at.ensures) _
