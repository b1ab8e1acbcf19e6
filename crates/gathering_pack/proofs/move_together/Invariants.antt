-- `gathering_pack::move_together` meets its contract. The loop's invariant: the payloads of the first k numbers stand together at the front, and the
-- rest of the store is as it was.
use Rattle.gathering_pack.proofs.Packing.{Together}
use Rattle.gathering_pack.proofs.move_together.Given as goal

abbrev pub invariant-loop-k : goal.invariant-loop-k
invariant-loop-k l = Together l.held l.fn.store l.k l.o l.store
