-- `configuration_fields::clock_year` meets its contract: it is the first of the three.
use mathlib.Core.Path.{sym, ap, ◌∙◌}
use Rattle.ground_refusal.proofs.Exits.{passed_on}
use Rattle.configuration_fields.specs.Asked.{clock_year, first_of}
use Rattle.configuration_fields.proofs.clock_year.Goals as goal

pub returns-in_err-year : goal.returns-in_err-year
returns-in_err-year c = unfold clock_year in passed_on c.from_residual.ensures ∙ ap first_of (sym c.in_err-year.was ∙ c.clock_date.ensures)

pub returns : goal.returns
returns c = unfold clock_year in ap first_of (sym c.in_ok-year.was ∙ c.clock_date.ensures)
