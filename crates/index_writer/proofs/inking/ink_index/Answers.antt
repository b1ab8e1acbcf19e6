-- `index_writer::inking::ink_index` meets its contract: its fields one after the other, under their names.
use mathlib.Core.Path.{refl}
use borrow.Author.Rules.{rules}
use Rattle.ground_refusal.specs.declared.Refusal.TheVariants.{LeftOver}
use Rattle.body_ink.proofs.Pairs.{first, second, pair_inked, view_ready, view_inked, exact_ready, exact_inked}
use Rattle.body_ink.proofs.Writers.{whole}
use Rattle.index.specs.Index.{fields, index}
use Rattle.index_writer.proofs.inking.ink_index.Goals as goal

pub ink_messages-past-requires : goal.ink_messages-past-requires
unfolding index fields
ink_messages-past-requires c = first _ _ (view_ready _ _ (exact_ready LeftOver c.requires) (λ a. refl))

pub part-requires : goal.part-requires
unfolding index fields
part-requires c = second c.ink_messages-past.ensures (view_ready _ _ (exact_ready LeftOver c.requires) (λ a. refl))

pub shape_of-out : goal.shape_of-out
unfolding index fields
shape_of-out c = search rules

pub returns : goal.returns
unfolding index fields
returns c = whole (exact_inked (view_inked (pair_inked c.ink_messages-past.ensures c.part.ensures) _ _ (λ a. refl)) LeftOver)
