-- `screen_order::comes_first` meets its contract: the first number that differs decides.
use mathlib.Core.Path.{◌∙◌}
use Rattle.screen_order.proofs.Order.{by_rank}
use Rattle.screen_order.proofs.comes_first.Goals as goal

pub returns : goal.returns
returns c = c.lt.ensures ∙ by_rank _ _ _ _ _ _ _ _
