-- `configuration_writer::inking::ink_tune` meets its contract: its fields one after the other.
use mathlib.Core.Path.{refl}
use native.Mathlib.Omega.{arith}
use borrow.Author.Rules.{rules}
use Rattle.ground_refusal.specs.declared.Refusal.TheVariants.{PastPart}
use Rattle.body_ink.proofs.Pairs.{moved, pair_inked, exact_inked}
use Rattle.body_ink.proofs.Numbers.{a_number, numeral_inked}
use Rattle.configuration.specs.Configuration.{terminals, said}
use Rattle.configuration_writer.proofs.Inkings.{mapping, tune_ready}
use Rattle.configuration_writer.proofs.inking.ink_tune.Goals as goal

pub offset_bounds-tape-k : goal.offset_bounds-tape-k
unfolding said terminals
offset_bounds-tape-k c = omega (arith, tune_ready c.requires)

pub bounds-tape-k : goal.bounds-tape-k
unfolding said terminals
bounds-tape-k c = omega (arith, tune_ready c.requires)

pub number-requires : goal.number-requires
unfolding said terminals
number-requires c = omega (arith, tune_ready c.requires)

pub overflow_add-at : goal.overflow_add-at
unfolding said terminals
overflow_add-at c = omega (arith, tune_ready c.requires)

pub overflow_add-k : goal.overflow_add-k
unfolding said terminals
overflow_add-k c = omega (arith, tune_ready c.requires)

pub offset_bounds-tape-k-2 : goal.offset_bounds-tape-k-2
unfolding said terminals
offset_bounds-tape-k-2 c = omega (arith, tune_ready c.requires)

pub bounds-tape-k-2 : goal.bounds-tape-k-2
unfolding said terminals
bounds-tape-k-2 c = omega (arith, tune_ready c.requires)

pub number-requires-2 : goal.number-requires-2
unfolding said terminals
number-requires-2 c = omega (arith, tune_ready c.requires)

pub overflow_add-at-2 : goal.overflow_add-at-2
unfolding said terminals
overflow_add-at-2 c = omega (arith, tune_ready c.requires)

pub overflow_add-k-2 : goal.overflow_add-k-2
unfolding said terminals
overflow_add-k-2 c = omega (arith, tune_ready c.requires)

pub offset_bounds-tape-k-3 : goal.offset_bounds-tape-k-3
unfolding said terminals
offset_bounds-tape-k-3 c = omega (arith, tune_ready c.requires)

pub bounds-tape-k-3 : goal.bounds-tape-k-3
unfolding said terminals
bounds-tape-k-3 c = omega (arith, tune_ready c.requires)

pub number-requires-3 : goal.number-requires-3
unfolding said terminals
number-requires-3 c = omega (arith, tune_ready c.requires)

pub overflow_add-k-3 : goal.overflow_add-k-3
unfolding said terminals
overflow_add-k-3 c = omega (arith, tune_ready c.requires)

pub overflow_add-at-3 : goal.overflow_add-at-3
unfolding said terminals
overflow_add-at-3 c = omega (arith, tune_ready c.requires)

pub resources-requires : goal.resources-requires
unfolding said terminals
resources-requires c = moved (tune_ready c.requires).3 refl refl (search rules)

pub shape_of-out : goal.shape_of-out
unfolding said terminals
shape_of-out c = search rules

pub returns : goal.returns
unfolding said terminals
returns c = exact_inked (pair_inked (numeral_inked (a_number 4) c.number.ensures refl refl)
    (pair_inked (numeral_inked (a_number 4) c.number-2.ensures (omega arith) (omega arith))
    (pair_inked (numeral_inked mapping c.number-3.ensures (omega arith) (omega arith)) c.resources.ensures))) PastPart
