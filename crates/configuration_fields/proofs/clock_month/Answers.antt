-- `configuration_fields::clock_month` meets its contract: it is the second of the three.
use mathlib.Core.Path.{sym, ap, ◌∙◌}
use Rattle.ground_refusal.proofs.Exits.{passed_on}
use Rattle.configuration_fields.specs.Asked.{clock_month, middle_of}
use Rattle.configuration_fields.proofs.clock_month.Goals as goal

pub returns-in_err-_year : goal.returns-in_err-_year
returns-in_err-_year c = unfold clock_month in passed_on c.from_residual.ensures ∙ ap middle_of (sym c.in_err-_year.was ∙ c.clock_date.ensures)

pub returns : goal.returns
returns c = unfold clock_month in ap middle_of (sym c.in_ok-_year.was ∙ c.clock_date.ensures)
