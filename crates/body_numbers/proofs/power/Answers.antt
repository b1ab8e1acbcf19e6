-- `body_numbers::power` meets its contract: a shift of 1 by at most 63 loses no bit.
use Rattle.body_formats.proofs.Bits.{one_shifted}
use native.Mathlib.Omega.{arith}
use Rattle.body_numbers.proofs.power.Goals as goal

pub returns : goal.returns
returns c = one_shifted _ (omega arith)
