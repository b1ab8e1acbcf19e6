-- `body_numbers::three_or_four_bytes` meets its contract: two bytes are a number of two, and each further byte counts by 256.
use native.Mathlib.Omega.{arith}
use Rattle.body_numbers.proofs.Numbers.{number_three, number_four}
use Rattle.body_numbers.proofs.three_or_four_bytes.Goals as goal

pub returns-then-w-eq3 : goal.returns-then-w-eq3
returns-then-w-eq3 c = number_three _ _ _ c.two_bytes.ensures.0 c.wide.ensures.0 (omega arith)

pub returns : goal.returns
returns c = number_four _ _ _ c.two_bytes.ensures.0 c.wide.ensures.0 (omega arith) c.wide-2.ensures.0
