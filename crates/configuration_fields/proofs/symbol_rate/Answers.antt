-- `configuration_fields::symbol_rate` meets its contract: it is a number of the content, none of which is refused for its value.
use mathlib.Core.Path.{◌∙◌}
use Rattle.configuration_fields.specs.Asked.{symbol_rate}
use Rattle.configuration_fields.proofs.Answers.{number_in}
use Rattle.configuration_fields.proofs.symbol_rate.Goals as goal

pub returns : goal.returns
returns c = unfold symbol_rate in c.number_in.ensures ∙ number_in _ (λ i. (c.type_inv.s i).fits) 4 3 4 _
