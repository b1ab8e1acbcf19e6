-- `body_walk::walk_part` meets its contract: the part read is what the opaque bytes fill.
use native.Mathlib.Omega.{arith}
use Rattle.body_walk.proofs.Pairs.{left}
use Rattle.body_walk.proofs.Leaves.{part_leaf, part_end}
use Rattle.body_walk.proofs.walk_part.Goals as goal

pub past_part-requires : goal.past_part-requires
past_part-requires c = omega (arith, part_end _ _ _ _ _ c.read_part.ensures)

pub returns-in_err-p : goal.returns-in_err-p
returns-in_err-p c = left c.from_residual.ensures c.in_err-p.was

pub returns : goal.returns
returns c = part_leaf _ _ _ _ _ _ _ c.in_ok-p.was _ _ c.read_part.ensures _ _ c.past_part.ensures
