-- `configuration_writer::inking::ink_query` meets its contract: its lists one after the other.
use borrow.Author.Rules.{rules}
use Rattle.ground_refusal.specs.declared.Refusal.TheVariants.{PastPart}
use Rattle.body_ink.proofs.Pairs.{first, second, pair_inked, exact_ready, exact_inked}
use Rattle.configuration.specs.Configuration.{terminals, said}
use Rattle.configuration_writer.proofs.inking.ink_query.Goals as goal

pub ink_parameters-past-requires : goal.ink_parameters-past-requires
unfolding said terminals
ink_parameters-past-requires c = first _ _ (exact_ready PastPart c.requires)

pub resources-requires : goal.resources-requires
unfolding said terminals
resources-requires c = second c.ink_parameters-past.ensures (exact_ready PastPart c.requires)

pub shape_of-out : goal.shape_of-out
unfolding said terminals
shape_of-out c = search rules

pub returns : goal.returns
unfolding said terminals
returns c = exact_inked (pair_inked c.ink_parameters-past.ensures c.resources.ensures) PastPart
