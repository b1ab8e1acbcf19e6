-- `configuration_writer::inking::ink_commands` meets its contract: their count, and as many of them as it says.
use mathlib.Core.Path.{refl}
use native.Mathlib.Omega.{arith}
use borrow.Author.Rules.{rules}
use Rattle.body_ink.proofs.Pairs.{moved}
use Rattle.body_ink.proofs.Numbers.{a_count, numeral_ready, numeral_inked}
use Rattle.body_ink.proofs.Lists.{list_count, list_ready, list_inked, times_start, times_next, times_turn, times_done}
use Rattle.configuration.specs.Configuration.{command}
use Rattle.configuration_writer.proofs.inking.ink_commands.Goals as goal

pub bounds-tape-0 : goal.bounds-tape-0
bounds-tape-0 c = omega (arith, numeral_ready (a_count 1) (list_count (a_count 1) command c.requires))

pub number-requires : goal.number-requires
number-requires c = omega (arith, numeral_ready (a_count 1) (list_count (a_count 1) command c.requires))

pub loop-init : goal.loop-init
loop-init c = times_start (moved (list_ready (a_count 1) command c.requires) refl refl (search rules))

pub ink_command-past-requires : goal.ink_command-past-requires
ink_command-past-requires c = times_next c.loop.invariant c.loop-test.true

pub loop-preserved : goal.loop-preserved
loop-preserved c = times_turn c.loop.invariant c.loop-test.true c.ink_command-past.ensures

pub returns : goal.returns
returns c = list_inked (a_count 1) command (numeral_inked (a_count 1) c.number.ensures refl refl) (times_done c.loop.invariant c.loop-test.false)
