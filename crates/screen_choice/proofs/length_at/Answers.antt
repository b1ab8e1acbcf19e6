-- `screen_choice::length_at` meets its contract: two bytes, the high one first.
use native.Mathlib.Omega.{arith}
use Rattle.screen_choice.proofs.length_at.Goals as goal

pub returns : goal.returns
returns c = record { is = omega arith; small = omega arith }
