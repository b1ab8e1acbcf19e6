-- `configuration_fields::clock_hour` meets its contract: it is the first of the three.
use mathlib.Core.Path.{sym, ap, ◌∙◌}
use Rattle.ground_refusal.proofs.Exits.{passed_on}
use Rattle.configuration_fields.specs.Asked.{clock_hour, first_of}
use Rattle.configuration_fields.proofs.clock_hour.Goals as goal

pub returns-in_err-hour : goal.returns-in_err-hour
returns-in_err-hour c = unfold clock_hour in passed_on c.from_residual.ensures ∙ ap first_of (sym c.in_err-hour.was ∙ c.clock_time.ensures)

pub returns : goal.returns
returns c = unfold clock_hour in ap first_of (sym c.in_ok-hour.was ∙ c.clock_time.ensures)
