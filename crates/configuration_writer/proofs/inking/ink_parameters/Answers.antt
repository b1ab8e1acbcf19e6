-- `configuration_writer::inking::ink_parameters` meets its contract: their count, and as many of them as it says.
use mathlib.Core.Path.{refl}
use native.Mathlib.Omega.{arith}
use borrow.Author.Rules.{rules}
use Rattle.body_formats.specs.Format.{number}
use Rattle.body_ink.proofs.Pairs.{moved}
use Rattle.body_ink.proofs.Numbers.{a_count, a_number, numeral_ready, numeral_inked}
use Rattle.body_ink.proofs.Lists.{list_count, list_ready, list_inked, times_start, times_next, times_turn, times_done}
use Rattle.configuration_writer.proofs.inking.ink_parameters.Goals as goal

pub offset_bounds-tape-k : goal.offset_bounds-tape-k
offset_bounds-tape-k c = omega (arith, numeral_ready (a_count 1) (list_count (a_count 1) (number 1) c.requires))

pub bounds-tape-k : goal.bounds-tape-k
bounds-tape-k c = omega (arith, numeral_ready (a_count 1) (list_count (a_count 1) (number 1) c.requires))

pub number-requires : goal.number-requires
number-requires c = omega (arith, numeral_ready (a_count 1) (list_count (a_count 1) (number 1) c.requires))

pub overflow_add-past : goal.overflow_add-past
overflow_add-past c = omega (arith, numeral_ready (a_count 1) (list_count (a_count 1) (number 1) c.requires))

pub overflow_add-past-2 : goal.overflow_add-past-2
overflow_add-past-2 c = omega (arith, numeral_ready (a_count 1) (list_count (a_count 1) (number 1) c.requires))

pub loop-init : goal.loop-init
loop-init c = times_start (moved (list_ready (a_count 1) (number 1) c.requires) refl refl (search rules))

pub offset_bounds-tape-past : goal.offset_bounds-tape-past
offset_bounds-tape-past c = omega (arith, numeral_ready (a_number 1) (times_next c.loop.invariant c.loop-test.true))

pub bounds-tape-past : goal.bounds-tape-past
bounds-tape-past c = omega (arith, numeral_ready (a_number 1) (times_next c.loop.invariant c.loop-test.true))

pub number-requires-in-loop : goal.number-requires-in-loop
number-requires-in-loop c = omega (arith, numeral_ready (a_number 1) (times_next c.loop.invariant c.loop-test.true))

pub overflow_add-past-in-loop : goal.overflow_add-past-in-loop
overflow_add-past-in-loop c = omega (arith, numeral_ready (a_number 1) (times_next c.loop.invariant c.loop-test.true))

pub overflow_add-past-in-loop-2 : goal.overflow_add-past-in-loop-2
overflow_add-past-in-loop-2 c = omega (arith, numeral_ready (a_number 1) (times_next c.loop.invariant c.loop-test.true))

pub loop-preserved : goal.loop-preserved
loop-preserved c = times_turn c.loop.invariant c.loop-test.true (numeral_inked (a_number 1) c.number-in-loop.ensures refl refl)

pub returns : goal.returns
returns c = list_inked (a_count 1) (number 1) (numeral_inked (a_count 1) c.number.ensures refl refl) (times_done c.loop.invariant c.loop-test.false)
