-- `body_numbers::read_number` meets its contract: a number that ends in the body and in its part stands there.
use mathlib.Core.Path.{sym, ◌∙◌}
use Rattle.ground_refusal.proofs.Exits.{passed_on}
use Rattle.body_formats.proofs.Readers.{number_is}
use Rattle.body_formats.proofs.Strings.{end_in}
use Rattle.body_numbers.proofs.Numbers.{number_no}
use Rattle.body_numbers.proofs.read_number.Goals as goal

pub number_at-requires : goal.number_at-requires
number_at-requires c = ((end_in _ _ _ _ _ (sym c.in_ok-q.was ∙ c.field_end.ensures)).1, c.requires)

pub returns-in_err-q : goal.returns-in_err-q
returns-in_err-q c = passed_on c.from_residual.ensures ∙ number_no _ _ _ _ _ (sym c.in_err-q.was ∙ c.field_end.ensures)

pub returns : goal.returns
returns c = let e = end_in _ _ _ _ _ (sym c.in_ok-q.was ∙ c.field_end.ensures) in
    number_is _ _ _ _ e.1 e.2 _ _ c.number_at.ensures e.0
