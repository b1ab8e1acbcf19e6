-- `configuration_fields::code_digit` meets its contract: the resource stands where the address ends.
use mathlib.Core.Path.{ap, ◌∙◌}
use Rattle.configuration_fields.specs.Asked.{code_digit, digit_at}
use Rattle.configuration_fields.proofs.code_digit.Goals as goal

pub returns : goal.returns
returns c = unfold code_digit in c.resource_digit.ensures ∙ ap (digit_at _ _) c.code_at.ensures
