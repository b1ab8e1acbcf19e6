-- `index_writer::inking::ink_descriptor` meets its contract: its fields one after the other, under their names.
use mathlib.Core.Path.{refl}
use native.Mathlib.Omega.{arith}
use borrow.Author.Rules.{rules}
use Rattle.body_ink.proofs.Pairs.{moved, ended}
use Rattle.body_ink.proofs.Strings.{tagged_ready, tagged_inked}
use Rattle.index.specs.Index.{descriptor}
use Rattle.index_writer.proofs.inking.ink_descriptor.Goals as goal

pub offset_bounds-tape-k : goal.offset_bounds-tape-k
unfolding descriptor
offset_bounds-tape-k c = omega (arith, tagged_ready 1 _ _ c.requires (λ a. refl))

pub bounds-tape-k : goal.bounds-tape-k
unfolding descriptor
bounds-tape-k c = omega (arith, tagged_ready 1 _ _ c.requires (λ a. refl))

pub number-requires : goal.number-requires
unfolding descriptor
number-requires c = omega (arith, tagged_ready 1 _ _ c.requires (λ a. refl))

pub overflow_add-k : goal.overflow_add-k
unfolding descriptor
overflow_add-k c = omega (arith, tagged_ready 1 _ _ c.requires (λ a. refl))

pub overflow_add-at : goal.overflow_add-at
unfolding descriptor
overflow_add-at c = omega (arith, tagged_ready 1 _ _ c.requires (λ a. refl))

pub part-requires : goal.part-requires
unfolding descriptor
part-requires c = moved (tagged_ready 1 _ _ c.requires (λ a. refl)).3 refl refl (search rules)

pub shape_of-out : goal.shape_of-out
unfolding descriptor
shape_of-out c = search rules

pub returns : goal.returns
unfolding descriptor
returns c = tagged_inked 1 _ _ c.number.ensures (ended c.part.ensures refl (omega arith)) (λ a. refl)
