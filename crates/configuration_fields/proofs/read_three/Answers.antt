-- `configuration_fields::read_three` meets its contract: each number begins where the one before ends.
use mathlib.Core.Path.{sym, ◌∙◌}
use Rattle.ground_refusal.proofs.Exits.{passed_on}
use Rattle.configuration_fields.proofs.Answers.{three_no_first, three_no_second, three_no_third, three_is}
use Rattle.configuration_fields.proofs.read_three.Goals as goal

pub returns-in_err-a : goal.returns-in_err-a
returns-in_err-a c = passed_on c.from_residual.ensures ∙ three_no_first _ _ _ _ _ (sym c.in_err-a.was ∙ c.read_number.ensures)

pub returns-in_err-b : goal.returns-in_err-b
returns-in_err-b c = passed_on c.from_residual-in_err-b.ensures ∙ three_no_second _ _ _ _ _ _ (sym c.in_ok-a.was ∙ c.read_number.ensures)
    _ (sym c.in_err-b.was ∙ c.read_number-2.ensures)

pub returns-in_err-c : goal.returns-in_err-c
returns-in_err-c c = passed_on c.from_residual-in_err-c.ensures ∙ three_no_third _ _ _ _ _ _ (sym c.in_ok-a.was ∙ c.read_number.ensures)
    _ _ (sym c.in_ok-b.was ∙ c.read_number-2.ensures)
    _ (sym c.in_err-c.was ∙ c.read_number-3.ensures)

pub returns : goal.returns
returns c = three_is _ _ _ _ _ _ (sym c.in_ok-a.was ∙ c.read_number.ensures)
    _ _ (sym c.in_ok-b.was ∙ c.read_number-2.ensures)
    _ _ (sym c.in_ok-c.was ∙ c.read_number-3.ensures)
