-- `configuration_writer::inking::ink_set_code` meets its contract: its fields one after the other.
use mathlib.Core.Path.{refl}
use native.Mathlib.Omega.{arith}
use borrow.Author.Rules.{rules}
use Rattle.ground_refusal.specs.declared.Refusal.TheVariants.{PastPart}
use Rattle.body_ink.proofs.Pairs.{ended, first, second, pair_inked, exact_ready, exact_inked}
use Rattle.body_ink.proofs.Strings.{part_ready, digits_ready}
use Rattle.configuration.specs.Configuration.{said}
use Rattle.configuration_writer.proofs.inking.ink_set_code.Goals as goal

pub part-past-requires : goal.part-past-requires
unfolding said
part-past-requires c = first _ _ (exact_ready PastPart c.requires)

pub overflow_add-k : goal.overflow_add-k
unfolding said
overflow_add-k c = omega (arith, part_ready 1 (first _ _ (exact_ready PastPart c.requires)))

pub digits-requires : goal.digits-requires
unfolding said
digits-requires c = second c.part-past.ensures (exact_ready PastPart c.requires)

pub overflow_add-result : goal.overflow_add-result
unfolding said
overflow_add-result c = omega (arith, digits_ready 11 (second c.part-past.ensures (exact_ready PastPart c.requires)))

pub overflow_add-result-2 : goal.overflow_add-result-2
unfolding said
overflow_add-result-2 c = omega (arith, digits_ready 11 (second c.part-past.ensures (exact_ready PastPart c.requires)))

pub overflow_add-result-3 : goal.overflow_add-result-3
unfolding said
overflow_add-result-3 c = omega (arith, digits_ready 11 (second c.part-past.ensures (exact_ready PastPart c.requires)))

pub shape_of-out : goal.shape_of-out
unfolding said
shape_of-out c = search rules

pub returns : goal.returns
unfolding said
returns c = exact_inked (pair_inked c.part-past.ensures (ended c.digits.ensures refl (omega arith))) PastPart
