-- `configuration_writer::inking::ink_commands` meets its contract: their count, and as many of them as it says.
use Rattle.body_ink.proofs.Lists.{Underway}
use Rattle.configuration.specs.Configuration.{command}
use Rattle.configuration_writer.proofs.inking.ink_commands.Given as goal

abbrev pub invariant-loop : goal.invariant-loop
invariant-loop l = Underway command l.pool l.tape l.n l.initial.past.at l.initial.past.entry l.initial.out l.counter l.past.at l.past.entry l.out
