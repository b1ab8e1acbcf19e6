-- `gathering_hand_out::join` meets its contract. The loop's invariant: the payloads of the first k numbers are laid at the start of the output.
use Rattle.gathering_hand_out.proofs.Joining.{Joining}
use Rattle.gathering_hand_out.proofs.join.Given as goal

abbrev pub invariant-loop-k : goal.invariant-loop-k
invariant-loop-k g l = Joining (g.P.Placing.at l.places) l.store l.held l.fn.out l.k l.o l.out
