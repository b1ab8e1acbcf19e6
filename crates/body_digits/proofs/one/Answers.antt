-- `body_digits::one` meets its contract: a byte below 160 has a high digit below 10.
use native.Mathlib.Omega.{arith}
use Rattle.body_digits.proofs.Digits.{digits_one}
use Rattle.body_digits.proofs.one.Goals as goal

pub returns : goal.returns
returns c = digits_one c.args.s.now c.args.p (omega arith)
