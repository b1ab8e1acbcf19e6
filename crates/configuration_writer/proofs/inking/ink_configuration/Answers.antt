-- `configuration_writer::inking::ink_configuration` meets its contract: its fields one after the other, under their names.
use mathlib.Core.Path.{refl}
use borrow.Author.Rules.{rules}
use Rattle.ground_refusal.specs.declared.Refusal.TheVariants.{LeftOver}
use Rattle.body_ink.proofs.Pairs.{first, second, pair_inked, view_ready, view_inked, exact_ready, exact_inked}
use Rattle.body_ink.proofs.Writers.{whole}
use Rattle.configuration.specs.Configuration.{fields, configuration}
use Rattle.configuration_writer.proofs.inking.ink_configuration.Goals as goal

pub ink_commands-past-requires : goal.ink_commands-past-requires
unfolding configuration fields
ink_commands-past-requires c = first _ _ (view_ready _ _ (exact_ready LeftOver c.requires) (λ a. refl))

pub part-requires : goal.part-requires
unfolding configuration fields
part-requires c = second c.ink_commands-past.ensures (view_ready _ _ (exact_ready LeftOver c.requires) (λ a. refl))

pub shape_of-out : goal.shape_of-out
unfolding configuration fields
shape_of-out c = search rules

pub returns : goal.returns
unfolding configuration fields
returns c = whole (exact_inked (view_inked (pair_inked c.ink_commands-past.ensures c.part.ensures) _ _ (λ a. refl)) LeftOver)
