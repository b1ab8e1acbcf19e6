-- `body_digits::digit_at` meets its contract: the digits that are read stand in the bytes of the part.
use mathlib.Core.Path.{sym, ◌∙◌}
use Rattle.ground_refusal.proofs.Exits.{passed_on}
use Rattle.body_formats.specs.Format.{digits}
use Rattle.body_formats.proofs.Strings.{digits_each, digit_no}
use Rattle.body_digits.proofs.digit_at.Goals as goal

pub digit_of-requires : goal.digit_of-requires
digit_of-requires c = (digits_each _ _ _ _ _ _ (λ i. (c.type_inv.s i).fits) (sym c.in_ok-a.was ∙ c.read_digits.ensures)).0

pub returns-in_err-a : goal.returns-in_err-a
returns-in_err-a c = passed_on c.from_residual.ensures ∙ digit_no (digits _) _ _ _ _ _ (sym c.in_err-a.was ∙ c.read_digits.ensures)

pub returns : goal.returns
returns c = c.digit_of.ensures
    ∙ (digits_each _ _ _ _ _ _ (λ i. (c.type_inv.s i).fits) (sym c.in_ok-a.was ∙ c.read_digits.ensures)).1 _
