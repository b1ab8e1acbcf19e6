-- `configuration_fields::whole` meets its contract: a headed part begins at p and ends where it is passed.
use mathlib.Core.Path.{sym, ◌∙◌}
use Rattle.ground_refusal.proofs.Exits.{passed_on}
use Rattle.body_asking.specs.Asking.{headed_part}
use Rattle.configuration_fields.proofs.Answers.{whole_no, whole_is, entry_onward}
use Rattle.configuration_fields.proofs.whole.Goals as goal

pub overflow_sub-result : goal.overflow_sub-result
overflow_sub-result c = entry_onward 1 2 _ _ _ _ (sym c.in_ok-end.was ∙ c.skip_entries.ensures)

pub returns-in_err-end : goal.returns-in_err-end
returns-in_err-end c = passed_on c.from_residual.ensures ∙ whole_no (headed_part 1 2) _ _ _ _ (sym c.in_err-end.was ∙ c.skip_entries.ensures)

pub returns : goal.returns
returns c = whole_is (headed_part 1 2) _ _ _ _ (sym c.in_ok-end.was ∙ c.skip_entries.ensures)
