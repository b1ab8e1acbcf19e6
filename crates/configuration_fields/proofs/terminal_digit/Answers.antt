-- `configuration_fields::terminal_digit` meets its contract: the resource stands at its place in the list.
use mathlib.Core.Path.{ap, ◌∙◌}
use Rattle.configuration_fields.specs.Asked.{terminal_digit, digit_at}
use Rattle.configuration_fields.proofs.terminal_digit.Goals as goal

pub returns : goal.returns
returns c = unfold terminal_digit in c.resource_digit.ensures ∙ ap (digit_at _ _) c.terminal_at.ensures
