-- `body_walk::lay_entry` meets its contract: where the entry fits it is stored at its place, and else the tape stays.
use native.Mathlib.Omega.{arith}
use Rattle.body_walk.proofs.Leaves.{laid_one, laid_not, laid_dry}
use Rattle.body_walk.proofs.lay_entry.Goals as goal

pub returns-then-room-len : goal.returns-then-room-len
returns-then-room-len c = laid_one _ _ _ _ _ c.if-wet.true (omega arith) (omega arith) (omega arith)

pub returns-else-room-len : goal.returns-else-room-len
returns-else-room-len c = laid_not _ _ _ _ (λ e h k. omega arith)

pub returns-else-room-gt1 : goal.returns-else-room-gt1
returns-else-room-gt1 c = laid_not _ _ _ _ (λ e h k. omega arith)

pub returns-else-wet : goal.returns-else-wet
returns-else-wet c = laid_dry _ _ _ _ c.if-wet.false
