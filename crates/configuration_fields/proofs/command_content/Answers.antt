-- `configuration_fields::command_content` meets its contract: it follows the tag, whose least content its length counts.
use mathlib.Core.Path.{sym, ◌∙◌}
use Rattle.ground_refusal.proofs.Exits.{passed_on}
use Rattle.configuration_fields.proofs.Answers.{content_no, content_is}
use Rattle.configuration_fields.proofs.command_content.Goals as goal

pub returns-in_err-tag : goal.returns-in_err-tag
returns-in_err-tag c = passed_on c.from_residual.ensures ∙ content_no _ _ _ (sym c.in_err-tag.was ∙ c.command_tag.ensures)

pub returns : goal.returns
returns c = c.read_part_least.ensures ∙ content_is _ _ _ _ _ (sym c.in_ok-tag.was ∙ c.command_tag.ensures)
    c.least_content.ensures
