-- `configuration_writer::inking::ink_set_period` meets its contract: its fields one after the other.
use mathlib.Core.Path.{refl}
use native.Mathlib.Omega.{arith}
use borrow.Author.Rules.{rules}
use Rattle.ground_refusal.specs.declared.Refusal.TheVariants.{PastPart}
use Rattle.body_ink.proofs.Pairs.{moved, first, pair_inked, exact_ready, exact_inked}
use Rattle.body_ink.proofs.Numbers.{a_number, numeral_ready, numeral_inked, after_number}
use Rattle.configuration.specs.Configuration.{terminals, said}
use Rattle.configuration_writer.proofs.inking.ink_set_period.Goals as goal

pub offset_bounds-tape-k : goal.offset_bounds-tape-k
unfolding said terminals
offset_bounds-tape-k c = omega (arith, numeral_ready (a_number 4) (first _ _ (exact_ready PastPart c.requires)))

pub bounds-tape-k : goal.bounds-tape-k
unfolding said terminals
bounds-tape-k c = omega (arith, numeral_ready (a_number 4) (first _ _ (exact_ready PastPart c.requires)))

pub number-requires : goal.number-requires
unfolding said terminals
number-requires c = omega (arith, numeral_ready (a_number 4) (first _ _ (exact_ready PastPart c.requires)))

pub overflow_add-k : goal.overflow_add-k
unfolding said terminals
overflow_add-k c = omega (arith, numeral_ready (a_number 4) (first _ _ (exact_ready PastPart c.requires)))

pub overflow_add-at : goal.overflow_add-at
unfolding said terminals
overflow_add-at c = omega (arith, numeral_ready (a_number 4) (first _ _ (exact_ready PastPart c.requires)))

pub resources-requires : goal.resources-requires
unfolding said terminals
resources-requires c = moved (after_number (a_number 4) _ (exact_ready PastPart c.requires)) refl refl (search rules)

pub shape_of-out : goal.shape_of-out
unfolding said terminals
shape_of-out c = search rules

pub returns : goal.returns
unfolding said terminals
returns c = exact_inked (pair_inked (numeral_inked (a_number 4) c.number.ensures refl refl) c.resources.ensures) PastPart
