-- `by_nibbles` meets its contract: the register is always that of the bytes passed.
use Rattle.crc.proofs.Walk.{Walk}
use Rattle.crc.proofs.by_nibbles.Given as goal

abbrev pub invariant-loop-b : goal.invariant-loop-b
invariant-loop-b l = Walk 16 0x1021 l.reg l.s l.b-index l.r
