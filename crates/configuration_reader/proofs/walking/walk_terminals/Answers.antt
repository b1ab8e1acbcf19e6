-- `configuration_reader::walking::walk_terminals` meets its contract: the resources, and no byte left.
use Rattle.ground_refusal.specs.declared.Refusal.TheVariants.{PastPart}
use Rattle.body_walk.proofs.Pairs.{exact_walk}
use Rattle.configuration.specs.Configuration.{terminals}
use Rattle.configuration_reader.proofs.walking.walk_terminals.Goals as goal

pub returns : goal.returns
unfolding terminals
returns c = exact_walk PastPart c.walk_resources-a.ensures c.leave.ensures
