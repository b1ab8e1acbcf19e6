-- `index_reader::walking::walk_index` meets its contract: the messages after their count, the signature, and no byte left.
use mathlib.Core.Path.{refl}
use Rattle.ground_refusal.specs.declared.Refusal.TheVariants.{LeftOver}
use Rattle.body_formats.specs.Format.{count}
use Rattle.body_formats.proofs.Leaves.{count_lawful}
use Rattle.body_formats.proofs.Parts.{opaque_lawful}
use Rattle.body_formats.proofs.Lists.{list_lawful}
use Rattle.body_walk.proofs.Pairs.{pair, view_walk, exact_walk}
use Rattle.index.specs.Index.{message, fields, index}
use Rattle.index.proofs.Lawful.{message_lawful}
use Rattle.index_reader.proofs.walking.walk_index.Goals as goal

pub returns : goal.returns
unfolding index fields
returns c = exact_walk LeftOver
    (view_walk _ _ (λ a. refl)
    (pair (list_lawful message message_lawful (count 1) (count_lawful 1)) (opaque_lawful 2).formal
    c.walk_messages-a.ensures c.walk_part-b.ensures))
    c.finish.ensures
