-- `configuration_writer::inking::ink_set_clock` meets its contract: its six numbers one after the other.
use native.Mathlib.Omega.{arith}
use borrow.Author.Rules.{rules}
use Rattle.ground_refusal.specs.declared.Refusal.TheVariants.{PastPart}
use Rattle.body_ink.proofs.Pairs.{pair_inked, only_inked, exact_inked}
use Rattle.body_ink.proofs.Numbers.{a_count, numeral_inked}
use Rattle.configuration.specs.Configuration.{date, clock, said}
use Rattle.configuration_writer.proofs.Inkings.{clock_ready}
use Rattle.configuration_writer.proofs.inking.ink_set_clock.Goals as goal

pub offset_bounds-tape-k : goal.offset_bounds-tape-k
unfolding said date clock
offset_bounds-tape-k c = omega (arith, clock_ready c.requires)

pub bounds-tape-k : goal.bounds-tape-k
unfolding said date clock
bounds-tape-k c = omega (arith, clock_ready c.requires)

pub number-requires : goal.number-requires
unfolding said date clock
number-requires c = omega (arith, clock_ready c.requires)

pub overflow_add-at : goal.overflow_add-at
unfolding said date clock
overflow_add-at c = omega (arith, clock_ready c.requires)

pub overflow_add-k : goal.overflow_add-k
unfolding said date clock
overflow_add-k c = omega (arith, clock_ready c.requires)

pub offset_bounds-tape-k-2 : goal.offset_bounds-tape-k-2
unfolding said date clock
offset_bounds-tape-k-2 c = omega (arith, clock_ready c.requires)

pub bounds-tape-k-2 : goal.bounds-tape-k-2
unfolding said date clock
bounds-tape-k-2 c = omega (arith, clock_ready c.requires)

pub number-requires-2 : goal.number-requires-2
unfolding said date clock
number-requires-2 c = omega (arith, clock_ready c.requires)

pub overflow_add-at-2 : goal.overflow_add-at-2
unfolding said date clock
overflow_add-at-2 c = omega (arith, clock_ready c.requires)

pub overflow_add-k-2 : goal.overflow_add-k-2
unfolding said date clock
overflow_add-k-2 c = omega (arith, clock_ready c.requires)

pub offset_bounds-tape-k-3 : goal.offset_bounds-tape-k-3
unfolding said date clock
offset_bounds-tape-k-3 c = omega (arith, clock_ready c.requires)

pub bounds-tape-k-3 : goal.bounds-tape-k-3
unfolding said date clock
bounds-tape-k-3 c = omega (arith, clock_ready c.requires)

pub number-requires-3 : goal.number-requires-3
unfolding said date clock
number-requires-3 c = omega (arith, clock_ready c.requires)

pub overflow_add-at-3 : goal.overflow_add-at-3
unfolding said date clock
overflow_add-at-3 c = omega (arith, clock_ready c.requires)

pub overflow_add-k-3 : goal.overflow_add-k-3
unfolding said date clock
overflow_add-k-3 c = omega (arith, clock_ready c.requires)

pub offset_bounds-tape-k-4 : goal.offset_bounds-tape-k-4
unfolding said date clock
offset_bounds-tape-k-4 c = omega (arith, clock_ready c.requires)

pub bounds-tape-k-4 : goal.bounds-tape-k-4
unfolding said date clock
bounds-tape-k-4 c = omega (arith, clock_ready c.requires)

pub number-requires-4 : goal.number-requires-4
unfolding said date clock
number-requires-4 c = omega (arith, clock_ready c.requires)

pub overflow_add-at-4 : goal.overflow_add-at-4
unfolding said date clock
overflow_add-at-4 c = omega (arith, clock_ready c.requires)

pub overflow_add-k-4 : goal.overflow_add-k-4
unfolding said date clock
overflow_add-k-4 c = omega (arith, clock_ready c.requires)

pub offset_bounds-tape-k-5 : goal.offset_bounds-tape-k-5
unfolding said date clock
offset_bounds-tape-k-5 c = omega (arith, clock_ready c.requires)

pub bounds-tape-k-5 : goal.bounds-tape-k-5
unfolding said date clock
bounds-tape-k-5 c = omega (arith, clock_ready c.requires)

pub number-requires-5 : goal.number-requires-5
unfolding said date clock
number-requires-5 c = omega (arith, clock_ready c.requires)

pub overflow_add-at-5 : goal.overflow_add-at-5
unfolding said date clock
overflow_add-at-5 c = omega (arith, clock_ready c.requires)

pub overflow_add-k-5 : goal.overflow_add-k-5
unfolding said date clock
overflow_add-k-5 c = omega (arith, clock_ready c.requires)

pub offset_bounds-tape-k-6 : goal.offset_bounds-tape-k-6
unfolding said date clock
offset_bounds-tape-k-6 c = omega (arith, clock_ready c.requires)

pub bounds-tape-k-6 : goal.bounds-tape-k-6
unfolding said date clock
bounds-tape-k-6 c = omega (arith, clock_ready c.requires)

pub number-requires-6 : goal.number-requires-6
unfolding said date clock
number-requires-6 c = omega (arith, clock_ready c.requires)

pub overflow_add-result : goal.overflow_add-result
unfolding said date clock
overflow_add-result c = omega (arith, clock_ready c.requires)

pub overflow_add-result-2 : goal.overflow_add-result-2
unfolding said date clock
overflow_add-result-2 c = omega (arith, clock_ready c.requires)

pub shape_of-out : goal.shape_of-out
unfolding said date clock
shape_of-out c = search rules

pub returns : goal.returns
unfolding said date clock
returns c = exact_inked (pair_inked
    (only_inked (pair_inked (numeral_inked (a_count 2) c.number.ensures (omega arith) (omega arith))
    (pair_inked (numeral_inked (a_count 1) c.number-2.ensures (omega arith) (omega arith))
    (numeral_inked (a_count 1) c.number-3.ensures (omega arith) (omega arith)))) _)
    (only_inked (pair_inked (numeral_inked (a_count 1) c.number-4.ensures (omega arith) (omega arith))
    (pair_inked (numeral_inked (a_count 1) c.number-5.ensures (omega arith) (omega arith))
    (numeral_inked (a_count 1) c.number-6.ensures (omega arith) (omega arith)))) _)) PastPart
