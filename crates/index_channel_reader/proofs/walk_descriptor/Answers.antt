-- `index_channel_reader::walk_descriptor` meets its contract: a tag and then a part, under their names.
use mathlib.Core.Path.{refl}
use Rattle.body_formats.proofs.Parts.{number_lawful, opaque_lawful}
use Rattle.body_walk.proofs.Pairs.{pair, view_walk}
use Rattle.index.specs.Index.{descriptor}
use Rattle.index_channel_reader.proofs.walk_descriptor.Goals as goal

pub returns : goal.returns
unfolding descriptor
returns c = view_walk _ _ (λ a. refl) (pair (number_lawful 1) (opaque_lawful 1).formal c.walk_number-a.ensures
    c.walk_part.ensures)
