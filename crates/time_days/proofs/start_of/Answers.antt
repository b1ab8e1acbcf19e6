-- `start_of` meets its contract: the table holds the start of each month, and an entry fits the wider number.
use native.Mathlib.Omega.{arith}
use Rattle.time_days.proofs.Months.{start_last, start_le}
use Rattle.time_days.proofs.start_of.Goals as goal

pub overflow_cast-result : goal.overflow_cast-result
overflow_cast-result c = omega (arith, c.requires.0.entry c.args.k (omega arith), start_last, start_le c.args.k 1657 (omega arith))

pub returns : goal.returns
returns c = c.requires.0.entry c.args.k (omega arith)
