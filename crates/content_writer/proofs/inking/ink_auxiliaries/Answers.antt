-- `content_writer::inking::ink_auxiliaries` meets its contract: their count, and as many of them as it says.
use mathlib.Core.Path.{refl}
use native.Mathlib.Omega.{arith}
use borrow.Author.Rules.{rules}
use Rattle.body_ink.proofs.Pairs.{moved}
use Rattle.body_ink.proofs.Numbers.{numeral_inked}
use Rattle.body_ink.proofs.Lists.{list_ready, list_inked, times_start, times_next, times_turn, times_done}
use Rattle.content.specs.Content.{auxiliaries}
use Rattle.content_writer.proofs.Inkings.{files_count, auxiliary_entries, count_ready}
use Rattle.content_writer.proofs.inking.ink_auxiliaries.Goals as goal

pub offset_bounds-tape-k : goal.offset_bounds-tape-k
unfolding auxiliaries
offset_bounds-tape-k c = omega (arith, count_ready 0 2 _ c.requires)

pub bounds-tape-k : goal.bounds-tape-k
unfolding auxiliaries
bounds-tape-k c = omega (arith, count_ready 0 2 _ c.requires)

pub overflow_add-n : goal.overflow_add-n
unfolding auxiliaries
overflow_add-n c = omega (arith, count_ready 0 2 _ c.requires)

pub number-requires : goal.number-requires
unfolding auxiliaries
number-requires c = omega (arith, count_ready 0 2 _ c.requires)

pub overflow_add-past : goal.overflow_add-past
unfolding auxiliaries
overflow_add-past c = omega (arith, count_ready 0 2 _ c.requires)

pub overflow_add-past-2 : goal.overflow_add-past-2
unfolding auxiliaries
overflow_add-past-2 c = omega (arith, count_ready 0 2 _ c.requires)

pub loop-init : goal.loop-init
unfolding auxiliaries
loop-init c = times_start (moved (list_ready files_count _ c.requires) refl refl (search rules))

pub ink_auxiliary-requires : goal.ink_auxiliary-requires
unfolding auxiliaries
ink_auxiliary-requires c = times_next c.loop.invariant c.loop-test.true

pub overflow_add-past-in-loop : goal.overflow_add-past-in-loop
unfolding auxiliaries
overflow_add-past-in-loop c = omega (arith, auxiliary_entries _ (times_next c.loop.invariant c.loop-test.true))

pub loop-preserved : goal.loop-preserved
unfolding auxiliaries
loop-preserved c = times_turn c.loop.invariant c.loop-test.true c.ink_auxiliary.ensures

pub returns : goal.returns
unfolding auxiliaries
returns c = list_inked files_count _ (numeral_inked files_count c.number.ensures refl refl) (times_done c.loop.invariant c.loop-test.false)
