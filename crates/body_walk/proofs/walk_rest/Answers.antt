-- `body_walk::walk_rest` meets its contract: where the bytes begin and how many are left are their entries.
use Rattle.body_walk.proofs.Pairs.{left}
use Rattle.body_walk.proofs.Leaves.{rest_leaf}
use Rattle.body_walk.proofs.walk_rest.Goals as goal

pub returns-in_err-p : goal.returns-in_err-p
returns-in_err-p c = left c.from_residual.ensures c.in_err-p.was

pub returns : goal.returns
returns c = rest_leaf _ _ _ _ _ _ _ c.in_ok-p.was _ _ _ c.less.ensures c.less-2.ensures c.lay_two.ensures
