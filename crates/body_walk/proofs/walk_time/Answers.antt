-- `body_walk::walk_time` meets its contract: the number read is judged as the format does.
use Rattle.body_walk.proofs.Pairs.{left}
use Rattle.body_walk.proofs.Leaves.{number_leaf, time_one}
use Rattle.body_walk.proofs.walk_time.Goals as goal

pub returns-in_err-p : goal.returns-in_err-p
returns-in_err-p c = left c.from_residual.ensures c.in_err-p.was

pub returns : goal.returns
returns c = number_leaf _ time_one _ _ _ _ _ _ _ c.in_ok-p.was _ c.read_time.ensures _ _ c.past_number.ensures
