-- `content_writer::inking::ink_content` meets its contract: its fields one after the other, under their names.
use mathlib.Core.Path.{refl}
use borrow.Author.Rules.{rules}
use Rattle.ground_refusal.specs.declared.Refusal.TheVariants.{LeftOver}
use Rattle.body_formats.specs.Identifier.{unreal_day, identifier}
use Rattle.body_ink.proofs.Pairs.{first, second, pair_inked, view_ready, view_inked, exact_ready, exact_inked, only_ready, only_inked}
use Rattle.body_ink.proofs.Writers.{whole}
use Rattle.content.specs.Content.{fields, content}
use Rattle.content_writer.proofs.inking.ink_content.Goals as goal

pub digits-requires : goal.digits-requires
unfolding content fields identifier
digits-requires c = only_ready unreal_day (first _ _ (view_ready _ _ (exact_ready LeftOver c.requires) (λ a. refl)))

pub ink_languages-past-requires : goal.ink_languages-past-requires
unfolding content fields identifier
ink_languages-past-requires c = first _ _ (second (only_inked c.digits.ensures unreal_day) (view_ready _ _ (exact_ready LeftOver c.requires) (λ a. refl)))

pub part-requires : goal.part-requires
unfolding content fields identifier
part-requires c = second c.ink_languages-past.ensures
    (second (only_inked c.digits.ensures unreal_day) (view_ready _ _ (exact_ready LeftOver c.requires) (λ a. refl)))

pub shape_of-out : goal.shape_of-out
unfolding content fields identifier
shape_of-out c = search rules

pub returns : goal.returns
unfolding content fields identifier
returns c = whole (exact_inked (view_inked
    (pair_inked (only_inked c.digits.ensures unreal_day)
    (pair_inked c.ink_languages-past.ensures c.part.ensures)) _ _ (λ a. refl)) LeftOver)
