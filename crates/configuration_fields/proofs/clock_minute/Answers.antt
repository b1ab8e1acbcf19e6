-- `configuration_fields::clock_minute` meets its contract: it is the second of the three.
use mathlib.Core.Path.{sym, ap, ◌∙◌}
use Rattle.ground_refusal.proofs.Exits.{passed_on}
use Rattle.configuration_fields.specs.Asked.{clock_minute, middle_of}
use Rattle.configuration_fields.proofs.clock_minute.Goals as goal

pub returns-in_err-_hour : goal.returns-in_err-_hour
returns-in_err-_hour c = unfold clock_minute in passed_on c.from_residual.ensures ∙ ap middle_of (sym c.in_err-_hour.was ∙ c.clock_time.ensures)

pub returns : goal.returns
returns c = unfold clock_minute in ap middle_of (sym c.in_ok-_hour.was ∙ c.clock_time.ensures)
