-- `configuration_fields::after_parameters` meets its contract: they begin so many bytes after the count.
use mathlib.Core.Path.{sym, ◌∙◌}
use Rattle.ground_refusal.proofs.Exits.{passed_on}
use Rattle.body_formats.proofs.Readers.{number_facts}
use Rattle.configuration_fields.proofs.Answers.{after_parameters_no, after_parameters}
use native.Mathlib.Omega.{arith}
use Rattle.configuration_fields.proofs.after_parameters.Goals as goal

pub overflow_add-result : goal.overflow_add-result
overflow_add-result c = omega (
  arith,
  number_facts _ _ _ _ _ _ (λ i. (c.type_inv.s i).fits)
      (sym c.in_ok-n.was ∙ c.read_number.ensures),
)

pub returns-in_err-n : goal.returns-in_err-n
returns-in_err-n c = passed_on c.from_residual.ensures ∙ after_parameters_no _ _ _ _ (sym c.in_err-n.was ∙ c.read_number.ensures)

pub returns : goal.returns
returns c = after_parameters _ _ _ _ _ (sym c.in_ok-n.was ∙ c.read_number.ensures)
