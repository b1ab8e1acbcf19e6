-- `configuration_writer::inking::ink_command` meets its contract: its tag, and what it says after room for its length, which is then written into it.
use mathlib.Core.Path.{refl}
use native.Mathlib.Omega.{arith}
use borrow.Author.Rules.{rules}
use Rattle.body_ink.proofs.Pairs.{moved, reaches}
use Rattle.configuration_writer.proofs.Inkings.{command_ready, command_inked}
use Rattle.configuration_writer.proofs.inking.ink_command.Goals as goal

pub offset_bounds-tape-k : goal.offset_bounds-tape-k
offset_bounds-tape-k c = omega (arith, command_ready c.requires)

pub bounds-tape-k : goal.bounds-tape-k
bounds-tape-k c = omega (arith, command_ready c.requires)

pub number-requires : goal.number-requires
number-requires c = omega (arith, command_ready c.requires)

pub overflow_add-k : goal.overflow_add-k
overflow_add-k c = omega (arith, command_ready c.requires)

pub overflow_add-at : goal.overflow_add-at
overflow_add-at c = omega (arith, command_ready c.requires)

pub ink_said-past-requires : goal.ink_said-past-requires
ink_said-past-requires c = moved (command_ready c.requires).3 refl refl (search rules)

pub overflow_add-at-2 : goal.overflow_add-at-2
overflow_add-at-2 c = omega (arith, command_ready c.requires)

pub overflow_sub-past : goal.overflow_sub-past
overflow_sub-past c = omega (arith, reaches (moved (command_ready c.requires).3 refl refl (search rules)) c.ink_said-past.ensures)

pub overflow_sub-past-2 : goal.overflow_sub-past-2
overflow_sub-past-2 c = omega (arith, reaches (moved (command_ready c.requires).3 refl refl (search rules)) c.ink_said-past.ensures)

pub number-requires-2 : goal.number-requires-2
number-requires-2 c = omega (arith, command_ready c.requires)

pub returns : goal.returns
returns c = command_inked c.number.ensures c.ink_said-past.ensures c.number-2.ensures
