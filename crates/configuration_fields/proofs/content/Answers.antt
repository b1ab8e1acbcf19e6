-- `configuration_fields::content` meets its contract: it is entered where the tag is the one asked for.
use mathlib.Core.Path.{sym, ◌∙◌}
use Rattle.ground_refusal.proofs.Exits.{passed_on}
use Rattle.configuration_fields.proofs.Answers.{content_in, place_no, place_other, place_bad, place_is}
use native.Mathlib.Omega.{arith}
use Rattle.configuration_fields.proofs.content.Goals as goal

pub returns-then-t-tag : goal.returns-then-t-tag
returns-then-t-tag c = place_other _ _ _ _ _ (sym c.in_ok-t.was ∙ c.command_tag.ensures) c.if-t-tag.true

pub overflow_add-result : goal.overflow_add-result
overflow_add-result c = omega (arith, content_in _ _ _ _ (sym c.in_ok-a.was ∙ c.command_content.ensures))

pub returns-in_err-t : goal.returns-in_err-t
returns-in_err-t c = passed_on c.from_residual.ensures ∙ place_no _ _ _ _ (sym c.in_err-t.was ∙ c.command_tag.ensures)

pub returns-in_err-a : goal.returns-in_err-a
returns-in_err-a c = passed_on c.from_residual-in_err-a.ensures ∙ place_bad _ _ _ _ _ (sym c.in_ok-t.was ∙ c.command_tag.ensures) c.if-t-tag.false _
    (sym c.in_err-a.was ∙ c.command_content.ensures)

pub returns : goal.returns
returns c = place_is _ _ _ _ _ (sym c.in_ok-t.was ∙ c.command_tag.ensures) c.if-t-tag.false _ _
    (sym c.in_ok-a.was ∙ c.command_content.ensures)
