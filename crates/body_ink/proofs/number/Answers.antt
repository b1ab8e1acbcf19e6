-- `body_ink::number` meets its contract: the last byte is laid first, and those still to be laid on what stands make the whole.
use mathlib.Core.Path.{◌∙◌}
use native.Mathlib.Omega.{arith}
use Rattle.body_ink.proofs.Numbers.{number_turn, number_done}
use Rattle.body_ink.proofs.number.Goals as goal

pub loop-k-preserved : goal.loop-k-preserved
loop-k-preserved c = let v = c.loop-k in number_turn _ _ v.k v.v c.loop-k-test.true (omega (arith, v.auto.out, v.auto.k)) ∙ v.invariant

pub returns : goal.returns
returns c = let v = c.loop-k in number_done v.out _ v.k v.v (omega arith) ∙ v.invariant
