-- `body_ink::resources` meets its contract: their count, and as many of them as it says.
use mathlib.Core.Path.{refl}
use native.Mathlib.Omega.{arith}
use borrow.Author.Rules.{rules}
use Rattle.body_formats.specs.Resource.{resource}
use Rattle.body_ink.proofs.Pairs.{moved}
use Rattle.body_ink.proofs.Numbers.{a_count, numeral_ready, numeral_inked}
use Rattle.body_ink.proofs.Strings.{digits_ready}
use Rattle.body_ink.proofs.Lists.{list_count, list_ready, list_inked, times_start, times_next, times_turn, times_done}
use Rattle.body_ink.proofs.resources.Goals as goal

pub offset_bounds-tape-k : goal.offset_bounds-tape-k
offset_bounds-tape-k c = omega (arith, numeral_ready (a_count 1) (list_count (a_count 1) resource c.requires))

pub bounds-tape-k : goal.bounds-tape-k
bounds-tape-k c = omega (arith, numeral_ready (a_count 1) (list_count (a_count 1) resource c.requires))

pub number-requires : goal.number-requires
number-requires c = omega (arith, numeral_ready (a_count 1) (list_count (a_count 1) resource c.requires))

pub overflow_add-past-2 : goal.overflow_add-past-2
overflow_add-past-2 c = omega (arith, numeral_ready (a_count 1) (list_count (a_count 1) resource c.requires))

pub loop-init : goal.loop-init
loop-init c = times_start (moved (list_ready (a_count 1) resource c.requires) refl refl (search rules))

pub digits-requires : goal.digits-requires
digits-requires c = times_next c.loop.invariant c.loop-test.true

pub overflow_add-past-in-loop-2 : goal.overflow_add-past-in-loop-2
overflow_add-past-in-loop-2 c = omega (arith, digits_ready _ (times_next c.loop.invariant c.loop-test.true))

pub overflow_add-past-in-loop-3 : goal.overflow_add-past-in-loop-3
overflow_add-past-in-loop-3 c = omega (arith, digits_ready _ (times_next c.loop.invariant c.loop-test.true))

pub loop-preserved : goal.loop-preserved
loop-preserved c = times_turn c.loop.invariant c.loop-test.true c.digits.ensures

pub returns : goal.returns
returns c = list_inked (a_count 1) resource (numeral_inked (a_count 1) c.number.ensures refl refl) (times_done c.loop.invariant c.loop-test.false)
