-- `body_numbers::read_time` meets its contract: of a number of five bytes crate times says what is wrong.
use mathlib.Core.Path.{sym, ◌∙◌}
use Rattle.ground_refusal.proofs.Exits.{passed_on}
use Rattle.body_formats.proofs.Strings.{time_no, time_said}
use Rattle.body_numbers.proofs.read_time.Goals as goal

pub returns-in_err-x : goal.returns-in_err-x
returns-in_err-x c = passed_on c.from_residual.ensures ∙ (time_no _ _ _ (λ i. (c.type_inv.s i).fits) _
    (sym c.in_err-x.was ∙ c.read_number.ensures)).0

pub returns-in_err-read_time : goal.returns-in_err-read_time
returns-in_err-read_time c = passed_on c.from_residual-in_err-read_time.ensures ∙ time_said _ _ _ (λ i. (c.type_inv.s i).fits) _ _ _
    (sym c.in_ok-x.was ∙ c.read_number.ensures) (sym c.in_err-read_time.was ∙ c.read_time.ensures)

pub returns : goal.returns
returns c = time_said _ _ _ (λ i. (c.type_inv.s i).fits) _ _ _
    (sym c.in_ok-x.was ∙ c.read_number.ensures) (sym c.in_ok-read_time.was ∙ c.read_time.ensures)
