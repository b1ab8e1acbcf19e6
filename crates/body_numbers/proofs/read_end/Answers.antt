-- `body_numbers::read_end` meets its contract: of a number of five bytes crate times says what is wrong, or that it is live.
use mathlib.Core.Path.{sym, ap, ◌∙◌}
use Rattle.ground_refusal.proofs.Exits.{passed_on}
use Rattle.body_formats.specs.Reading.{found, judged}
use Rattle.body_formats.specs.Answers.{number_of}
use Rattle.body_numbers.proofs.Numbers.{end_fine}
use Rattle.body_formats.proofs.Strings.{time_no, end_said}
use Rattle.body_numbers.proofs.read_end.Goals as goal

pub returns-in_err-x : goal.returns-in_err-x
returns-in_err-x c = passed_on c.from_residual.ensures ∙ (time_no _ _ _ (λ i. (c.type_inv.s i).fits) _
    (sym c.in_err-x.was ∙ c.read_number.ensures)).1

pub returns-in_err-read_end : goal.returns-in_err-read_end
returns-in_err-read_end c = passed_on c.from_residual-in_err-read_end.ensures ∙ end_said _ _ _ (λ i. (c.type_inv.s i).fits) _ _ _
    (sym c.in_ok-x.was ∙ c.read_number.ensures) (sym c.in_err-read_end.was ∙ c.read_end.ensures)

pub returns : goal.returns
returns c = ap (λ f. number_of (judged f (found c.in_ok-x.x c.in_ok-x.q))) (sym (end_fine _)) ∙ end_said _ _ _ (λ i. (c.type_inv.s i).fits) _ _ _
    (sym c.in_ok-x.was ∙ c.read_number.ensures) (sym c.in_ok-read_end.was ∙ c.read_end.ensures)
