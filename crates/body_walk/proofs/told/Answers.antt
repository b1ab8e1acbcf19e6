-- `body_walk::told` meets its contract: a number that is there has one entry and is told, and a refusal has none.
use Rattle.body_walk.proofs.Leaves.{told_none, told_one}
use Rattle.body_walk.proofs.told.Goals as goal

pub returns-in_err-v : goal.returns-in_err-v
returns-in_err-v c = told_none c.in_err-v.was c.from_residual.ensures

pub returns : goal.returns
returns c = told_one c.in_ok-v.was c.less.ensures c.lay_entry.ensures
