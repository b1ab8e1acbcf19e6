-- `configuration_writer::inking::ink_parameters` meets its contract: their count, and as many of them as it says.
use Rattle.body_formats.specs.Format.{number}
use Rattle.body_ink.proofs.Lists.{Underway}
use Rattle.configuration_writer.proofs.inking.ink_parameters.Given as goal

abbrev pub invariant-loop : goal.invariant-loop
invariant-loop l = Underway (number 1) l.pool l.tape l.n l.initial.past.at l.initial.past.entry l.initial.out l.counter l.past.at l.past.entry l.out
