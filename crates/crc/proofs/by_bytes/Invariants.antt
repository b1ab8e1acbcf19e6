-- `by_bytes` meets its contract: the register is always that of the bytes passed.
use Rattle.crc.proofs.Walk.{Walk}
use Rattle.crc.proofs.by_bytes.Given as goal

abbrev pub invariant-loop-b : goal.invariant-loop-b
invariant-loop-b l = Walk 32 0x04C11DB7 l.reg l.s l.b-index l.r
