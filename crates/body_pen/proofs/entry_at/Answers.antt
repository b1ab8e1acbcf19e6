-- `body_pen::entry_at` meets its contract: its test is that of an entry.
use Rattle.body_pen.proofs.Leaves.{entry_none, entry_there}
use native.Mathlib.Omega.{arith}
use Rattle.body_pen.proofs.entry_at.Goals as goal

pub returns-then-tape-k : goal.returns-then-tape-k
returns-then-tape-k c = entry_none _ _ (omega arith)

pub returns : goal.returns
returns c = entry_there _ _ (omega arith)
