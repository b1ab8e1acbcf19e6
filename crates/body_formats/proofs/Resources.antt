-- Resources keep the laws of formats.
use Rattle.body_formats.specs.Format.{count}
use Rattle.body_formats.specs.Resource.{resource_pairs, resource, resources}
use Rattle.body_formats.proofs.Classes.{Lawful}
use Rattle.body_formats.proofs.Leaves.{count_lawful, digits_lawful}
use Rattle.body_formats.proofs.Lists.{list_lawful}

pub resources_lawful : Lawful resources
resources_lawful = list_lawful resource (digits_lawful resource_pairs) (count 1) (count_lawful 1)
