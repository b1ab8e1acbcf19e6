-- `configuration_reader::walking::walk_configuration` meets its contract: the commands after their count, the signature, and no byte left.
use mathlib.Core.Path.{refl}
use Rattle.ground_refusal.specs.declared.Refusal.TheVariants.{LeftOver}
use Rattle.body_formats.specs.Format.{count}
use Rattle.body_formats.proofs.Leaves.{count_lawful}
use Rattle.body_formats.proofs.Parts.{opaque_lawful}
use Rattle.body_formats.proofs.Lists.{list_lawful}
use Rattle.body_walk.proofs.Pairs.{pair, view_walk, exact_walk}
use Rattle.configuration.specs.Configuration.{command, fields, configuration}
use Rattle.configuration.proofs.Lawful.{command_lawful}
use Rattle.configuration_reader.proofs.walking.walk_configuration.Goals as goal

pub returns : goal.returns
unfolding configuration fields
returns c = exact_walk LeftOver
    (view_walk _ _ (λ a. refl)
    (pair (list_lawful command command_lawful (count 1) (count_lawful 1)) (opaque_lawful 2).formal
    c.walk_commands-a.ensures c.walk_part-b.ensures))
    c.finish.ensures
