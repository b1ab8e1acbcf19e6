-- `index_channel_reader::walk_flagged` meets its contract: the flag, and the channel where it is not 0.
use native.Mathlib.Omega.{arith}
use Rattle.body_formats.proofs.Leaves.{reserved_lawful}
use Rattle.body_walk.proofs.Counts.{flag_off, flag_on, flag_stop}
use Rattle.index.specs.Index.{flagged}
use Rattle.index.proofs.Lawful.{channel_lawful}
use Rattle.index_channel_reader.proofs.walk_flagged.Goals as goal

pub returns-in_err-at : goal.returns-in_err-at
unfolding flagged
returns-in_err-at c = flag_stop (reserved_lawful 7 0 (omega arith)) channel_lawful.formal c.walk_reserved.ensures c.in_err-at.was c.from_residual.ensures

pub returns-then-flag-eq0 : goal.returns-then-flag-eq0
unfolding flagged
returns-then-flag-eq0 c = let w = rw c.in_ok-at.was at c.walk_reserved.ensures in
    flag_off (reserved_lawful 7 0 (omega arith)) channel_lawful.formal w c.if-flag-eq0.true

pub returns : goal.returns
unfolding flagged
returns c = let w = rw c.in_ok-at.was at c.walk_reserved.ensures in
    flag_on (reserved_lawful 7 0 (omega arith)) channel_lawful.formal w (omega arith) c.walk_channel.ensures
