-- `index_writer::inking::ink_all_streams` meets its contract: as many as the tape says.
use Rattle.std.specs.Prelude.{get_or}
use Rattle.body_ink.proofs.Lists.{Underway}
use Rattle.index.specs.Index.{stream}
use Rattle.index_writer.proofs.inking.ink_all_streams.Given as goal

abbrev pub invariant-loop : goal.invariant-loop
invariant-loop l = Underway stream l.pool l.tape (get_or l.tape l.k 0) l.initial.past.at l.initial.past.entry l.initial.out l.counter l.past.at l.past.entry l.out
