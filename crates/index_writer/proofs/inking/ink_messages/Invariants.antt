-- `index_writer::inking::ink_messages` meets its contract: their count, and as many of them as it says.
use Rattle.body_ink.proofs.Lists.{Underway}
use Rattle.index.specs.Index.{message}
use Rattle.index_writer.proofs.inking.ink_messages.Given as goal

abbrev pub invariant-loop : goal.invariant-loop
invariant-loop l = Underway message l.pool l.tape l.n l.initial.past.at l.initial.past.entry l.initial.out l.counter l.past.at l.past.entry l.out
