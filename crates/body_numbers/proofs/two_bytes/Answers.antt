-- `body_numbers::two_bytes` meets its contract: its bytes count by 256.
use native.Mathlib.Omega.{arith}
use Rattle.body_numbers.proofs.Numbers.{number_two}
use Rattle.body_numbers.proofs.two_bytes.Goals as goal

pub returns : goal.returns
returns c = (number_two _ _ (omega arith) (omega arith), omega arith)
