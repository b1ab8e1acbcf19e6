-- `configuration_reader::walking::walk_commands` meets its contract: a count, and so many commands; those still to come make the whole.
use native.Mathlib.Omega.{arith}
use borrow.Author.Rules.{rules}
use Rattle.body_formats.proofs.Leaves.{count_lawful}
use Rattle.configuration.specs.Configuration.{command}
use Rattle.configuration.proofs.Lawful.{command_lawful}
use Rattle.body_walk.proofs.Counts.{times_start, times_turn, times_done, list_walk, list_stop}
use Rattle.configuration_reader.proofs.walking.walk_commands.Goals as goal

pub returns-in_err-first : goal.returns-in_err-first
returns-in_err-first c = list_stop (count_lawful 1) command_lawful c.in_err-first.was c.from_residual.ensures c.walk_count.ensures

pub loop-i-init : goal.loop-i-init
loop-i-init c = times_start command _

pub loop-i-preserved : goal.loop-i-preserved
loop-i-preserved c = times_turn command _ _ command_lawful (omega arith) c.loop-i.invariant c.walk_command-at.ensures (search rules)

pub returns : goal.returns
returns c = list_walk (count_lawful 1) command_lawful c.in_ok-first.was c.walk_count.ensures (times_done command _ _ (omega arith) c.loop-i.invariant)
