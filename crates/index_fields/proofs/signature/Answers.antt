-- `index_fields::signature` meets its contract: the signature follows the messages.
use mathlib.Core.Path.{sym, ◌∙◌}
use Rattle.ground_refusal.proofs.Exits.{passed_on}
use Rattle.index_fields.proofs.Answers.{signature_no, signature_is}
use Rattle.index_fields.proofs.signature.Goals as goal

pub returns-in_err-q : goal.returns-in_err-q
returns-in_err-q c = passed_on c.from_residual.ensures ∙ signature_no _ _ (sym c.in_err-q.was ∙ c.skip_list.ensures)

pub returns : goal.returns
returns c = c.read_part.ensures ∙ signature_is _ _ (sym c.in_ok-q.was ∙ c.skip_list.ensures)
