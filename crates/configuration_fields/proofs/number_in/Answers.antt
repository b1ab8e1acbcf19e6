-- `configuration_fields::number_in` meets its contract: it stands so many bytes into the content.
use mathlib.Core.Path.{sym, ap, ◌∙◌}
use Rattle.ground_refusal.proofs.Exits.{passed_on}
use Rattle.body_formats.specs.Format.{count}
use Rattle.body_formats.specs.Answers.{number_of, number_read}
use Rattle.configuration_fields.proofs.Answers.{in_command_no, in_command_lem, inside}
use native.Mathlib.Omega.{arith}
use Rattle.configuration_fields.proofs.number_in.Goals as goal

pub overflow_add-q : goal.overflow_add-q
overflow_add-q c = omega (arith, inside _ _ _ _ _ (sym c.in_ok-q.was ∙ c.content.ensures))

pub returns-in_err-q : goal.returns-in_err-q
returns-in_err-q c = passed_on c.from_residual.ensures ∙ ap number_of (in_command_no (count _) _ _ _ _ _ (sym c.in_err-q.was ∙ c.content.ensures))

pub returns : goal.returns
returns c = unfold number_read in c.read_number.ensures ∙ ap number_of (in_command_lem (count _) _ _ _ _ _ _ (sym c.in_ok-q.was ∙ c.content.ensures))
