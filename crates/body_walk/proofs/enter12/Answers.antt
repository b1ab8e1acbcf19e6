-- `body_walk::enter12` meets its contract: the part read is the one entered.
use mathlib.Core.Path.{◌∙◌}
use native.Mathlib.Omega.{arith}
use Rattle.body_formats.specs.Format.{length12}
use Rattle.ground_refusal.proofs.Exits.{passed_on}
use Rattle.body_walk.proofs.Leaves.{counted_end, enter_refused, enter_at}
use Rattle.body_walk.proofs.enter12.Goals as goal

pub into-requires : goal.into-requires
into-requires c = let t = c.args in
    omega (arith, counted_end length12 t.s.now t.l c.in_ok-p.p _ c.read_part12.ensures)

pub returns-in_err-p : goal.returns-in_err-p
returns-in_err-p c = passed_on c.from_residual.ensures ∙ enter_refused _ _ _ _ _ c.in_err-p.was

pub returns : goal.returns
returns c = c.into.ensures ∙ enter_at _ _ _ _ _ _ c.in_ok-p.was _ c.read_part12.ensures
