-- `configuration_fields::period` meets its contract: it is a number of the content, none of which is refused for its value.
use mathlib.Core.Path.{◌∙◌}
use Rattle.configuration_fields.specs.Asked.{period}
use Rattle.configuration_fields.proofs.Answers.{number_in}
use Rattle.configuration_fields.proofs.period.Goals as goal

pub returns : goal.returns
returns c = unfold period in c.number_in.ensures ∙ number_in _ (λ i. (c.type_inv.s i).fits) 4 5 0 _
