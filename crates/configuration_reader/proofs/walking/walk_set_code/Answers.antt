-- `configuration_reader::walking::walk_set_code` meets its contract: a part, a resource, and no byte left.
use Rattle.ground_refusal.specs.declared.Refusal.TheVariants.{PastPart}
use Rattle.body_formats.specs.Resource.{resource_pairs}
use Rattle.body_formats.proofs.Leaves.{digits_lawful}
use Rattle.body_formats.proofs.Parts.{opaque_lawful}
use Rattle.body_walk.proofs.Pairs.{pair, exact_walk}
use Rattle.configuration.specs.Configuration.{said}
use Rattle.configuration_reader.proofs.walking.walk_set_code.Goals as goal

pub returns : goal.returns
unfolding said
returns c = exact_walk PastPart (pair (opaque_lawful 1) (digits_lawful resource_pairs).formal
    c.walk_part-a.ensures c.walk_digits-b.ensures) c.leave.ensures
