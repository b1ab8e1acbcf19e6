-- `content_fields::signature` meets its contract: it follows the languages.
use mathlib.Core.Path.{sym, ◌∙◌}
use Rattle.ground_refusal.proofs.Exits.{passed_on}
use Rattle.content_fields.proofs.Answers.{signature_no, signature_none, signature_is}
use Rattle.content_fields.proofs.signature.Goals as goal

pub returns-in_err-n : goal.returns-in_err-n
returns-in_err-n c = passed_on c.from_residual.ensures ∙ signature_no _ _ (sym c.in_err-n.was ∙ c.language_count.ensures)

pub returns-in_err-p : goal.returns-in_err-p
returns-in_err-p c = passed_on c.from_residual-in_err-p.ensures ∙ signature_none _ _ _ (sym c.in_ok-n.was ∙ c.language_count.ensures) _
    (sym c.in_err-p.was ∙ c.skip_entries.ensures)

pub returns : goal.returns
returns c = c.read_part.ensures ∙ signature_is _ _ _ (sym c.in_ok-n.was ∙ c.language_count.ensures) _
    (sym c.in_ok-p.was ∙ c.skip_entries.ensures)
