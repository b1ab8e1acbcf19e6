-- `configuration_fields::resource` meets its contract: it stands at the place told.
use mathlib.Core.Path.{sym, ap, ◌∙◌}
use Rattle.ground_refusal.proofs.Exits.{passed_on}
use Rattle.configuration_fields.specs.Asked.{resource_of}
use Rattle.configuration_fields.proofs.resource.Goals as goal

pub returns-in_err-q : goal.returns-in_err-q
returns-in_err-q c = passed_on c.from_residual.ensures ∙ ap (resource_of _) (sym c.in_err-q.was)

pub returns : goal.returns
returns c = c.read_digits.ensures ∙ ap (resource_of _) (sym c.in_ok-q.was)
