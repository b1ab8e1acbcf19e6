-- `content_reader::walking::walk_auxiliary` meets its contract: a type and then a part, under their names.
use mathlib.Core.Path.{refl}
use Rattle.body_formats.proofs.Parts.{number_lawful, opaque_lawful}
use Rattle.body_walk.proofs.Pairs.{pair, view_walk}
use Rattle.content.specs.Content.{auxiliary}
use Rattle.content_reader.proofs.walking.walk_auxiliary.Goals as goal

pub returns : goal.returns
unfolding auxiliary
returns c = view_walk _ _ (λ a. refl) (pair (number_lawful 1) (opaque_lawful _).formal c.walk_number-a.ensures
    c.walk_part.ensures)
