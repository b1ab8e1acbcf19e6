-- `content_writer::inking::ink_auxiliary` meets its contract: its fields one after the other, under their names.
use mathlib.Core.Path.{refl}
use native.Mathlib.Omega.{arith}
use borrow.Author.Rules.{rules}
use Rattle.body_ink.proofs.Pairs.{moved, ended}
use Rattle.body_ink.proofs.Strings.{tagged_ready, tagged_inked}
use Rattle.content.specs.Content.{auxiliary}
use Rattle.content_writer.proofs.inking.ink_auxiliary.Goals as goal

pub offset_bounds-tape-k : goal.offset_bounds-tape-k
unfolding auxiliary
offset_bounds-tape-k c = omega (arith, tagged_ready _ _ _ c.requires (λ a. refl))

pub bounds-tape-k : goal.bounds-tape-k
unfolding auxiliary
bounds-tape-k c = omega (arith, tagged_ready _ _ _ c.requires (λ a. refl))

pub number-requires : goal.number-requires
unfolding auxiliary
number-requires c = omega (arith, tagged_ready _ _ _ c.requires (λ a. refl))

pub overflow_add-k : goal.overflow_add-k
unfolding auxiliary
overflow_add-k c = omega (arith, tagged_ready _ _ _ c.requires (λ a. refl))

pub overflow_add-at : goal.overflow_add-at
unfolding auxiliary
overflow_add-at c = omega (arith, tagged_ready _ _ _ c.requires (λ a. refl))

pub part-requires : goal.part-requires
unfolding auxiliary
part-requires c = moved (tagged_ready _ _ _ c.requires (λ a. refl)).3 refl refl (search rules)

pub shape_of-out : goal.shape_of-out
unfolding auxiliary
shape_of-out c = search rules

pub returns : goal.returns
unfolding auxiliary
returns c = tagged_inked _ _ _ c.number.ensures (ended c.part.ensures refl (omega arith)) (λ a. refl)
