-- `body_walk::enter` meets its contract: the part read is the one entered.
use mathlib.Core.Path.{◌∙◌}
use native.Mathlib.Omega.{arith}
use Rattle.ground_refusal.proofs.Exits.{passed_on}
use Rattle.body_walk.proofs.Leaves.{part_end, enter_refused, enter_part}
use Rattle.body_walk.proofs.enter.Goals as goal

pub into-requires : goal.into-requires
into-requires c = omega (arith, part_end _ _ _ _ _ c.read_part.ensures)

pub returns-in_err-p : goal.returns-in_err-p
returns-in_err-p c = passed_on c.from_residual.ensures ∙ enter_refused _ _ _ _ _ c.in_err-p.was

pub returns : goal.returns
returns c = c.into.ensures ∙ enter_part _ _ _ _ _ _ c.in_ok-p.was _ c.read_part.ensures
