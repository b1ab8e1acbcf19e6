-- `configuration_fields::clock_second` meets its contract: it is the third of the three.
use mathlib.Core.Path.{sym, ap, ◌∙◌}
use Rattle.ground_refusal.proofs.Exits.{passed_on}
use Rattle.configuration_fields.specs.Asked.{clock_second, last_of}
use Rattle.configuration_fields.proofs.clock_second.Goals as goal

pub returns-in_err-_hour : goal.returns-in_err-_hour
returns-in_err-_hour c = unfold clock_second in passed_on c.from_residual.ensures ∙ ap last_of (sym c.in_err-_hour.was ∙ c.clock_time.ensures)

pub returns : goal.returns
returns c = unfold clock_second in ap last_of (sym c.in_ok-_hour.was ∙ c.clock_time.ensures)
