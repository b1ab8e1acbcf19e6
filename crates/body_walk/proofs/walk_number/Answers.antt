-- `body_walk::walk_number` meets its contract: w bytes hold any number of the format.
use mathlib.Core.Path.{◌∙◌}
use Rattle.body_formats.proofs.Bits.{number_is_count}
use Rattle.body_walk.proofs.Pairs.{left}
use Rattle.body_walk.proofs.Leaves.{number_leaf, number_one}
use Rattle.body_walk.proofs.walk_number.Goals as goal

pub returns-in_err-p : goal.returns-in_err-p
returns-in_err-p c = left c.from_residual.ensures c.in_err-p.was

pub returns : goal.returns
returns c = number_leaf _ (number_one _) _ _ _ _ _ _ _ c.in_ok-p.was _
    (c.read_number.ensures ∙ number_is_count _ _ _ _ (λ i. (c.type_inv.s i).fits)) _ _
    c.past_number.ensures
