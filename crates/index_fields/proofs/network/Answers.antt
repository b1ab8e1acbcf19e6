-- `index_fields::network` meets its contract: it is a number of two bytes, none of which is refused for its value.
use mathlib.Core.Path.{◌∙◌}
use Rattle.index_fields.proofs.Answers.{network_is}
use Rattle.index_fields.proofs.network.Goals as goal

pub returns : goal.returns
returns c = c.number_in.ensures ∙ network_is _ _ _ (λ i. (c.type_inv.s i).fits)
