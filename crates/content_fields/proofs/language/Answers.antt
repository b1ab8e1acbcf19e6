-- `content_fields::language` meets its contract: it stands after the languages before it, as many as the count allows.
use mathlib.Core.Path.{sym, ◌∙◌}
use Rattle.ground_refusal.proofs.Exits.{passed_on}
use Rattle.content_fields.proofs.Answers.{language_no, language_none, language_is}
use Rattle.content_fields.proofs.language.Goals as goal

pub returns-in_err-n : goal.returns-in_err-n
returns-in_err-n c = passed_on c.from_residual.ensures ∙ language_no _ _ (sym c.in_err-n.was ∙ c.language_count.ensures) _

pub returns-in_err-p : goal.returns-in_err-p
returns-in_err-p c = passed_on c.from_residual-in_err-p.ensures ∙ language_none _ _ _ (sym c.in_ok-n.was ∙ c.language_count.ensures) _ _
    (sym c.in_err-p.was ∙ c.nth_entry.ensures)

pub returns : goal.returns
returns c = c.read_part.ensures ∙ language_is _ _ _ (sym c.in_ok-n.was ∙ c.language_count.ensures) _ _
    (sym c.in_ok-p.was ∙ c.nth_entry.ensures)
