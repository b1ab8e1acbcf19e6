-- `configuration_fields::code_at` meets its contract: it follows the address.
use mathlib.Core.Path.{sym, ◌∙◌}
use Rattle.ground_refusal.proofs.Exits.{passed_on}
use Rattle.body_formats.proofs.Readers.{part_facts}
use Rattle.configuration_fields.proofs.Answers.{code_no, code_bad, code_is}
use native.Mathlib.Omega.{arith}
use Rattle.configuration_fields.proofs.code_at.Goals as goal

pub overflow_add-result : goal.overflow_add-result
overflow_add-result c = omega (arith, part_facts _ _ _ _ _ _ (sym c.in_ok-a.was ∙ c.read_part.ensures))

pub returns-in_err-q : goal.returns-in_err-q
returns-in_err-q c = passed_on c.from_residual.ensures ∙ code_no _ _ _ (sym c.in_err-q.was ∙ c.content.ensures)

pub returns-in_err-a : goal.returns-in_err-a
returns-in_err-a c = passed_on c.from_residual-in_err-a.ensures ∙ code_bad _ _ _ _ (sym c.in_ok-q.was ∙ c.content.ensures) _ (sym c.in_err-a.was ∙ c.read_part.ensures)

pub returns : goal.returns
returns c = code_is _ _ _ _ (sym c.in_ok-q.was ∙ c.content.ensures) _ _ (sym c.in_ok-a.was ∙ c.read_part.ensures)
