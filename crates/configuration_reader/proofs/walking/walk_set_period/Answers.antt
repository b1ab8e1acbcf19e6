-- `configuration_reader::walking::walk_set_period` meets its contract: a number, and the terminals after it fill the content.
use Rattle.ground_refusal.specs.declared.Refusal.TheVariants.{PastPart}
use Rattle.body_formats.proofs.Parts.{number_lawful}
use Rattle.body_walk.proofs.Pairs.{exact_pair}
use Rattle.configuration.specs.Configuration.{said}
use Rattle.configuration.proofs.Lawful.{terminals_lawful}
use Rattle.configuration_reader.proofs.walking.walk_set_period.Goals as goal

pub returns : goal.returns
unfolding said
returns c = exact_pair PastPart (number_lawful 4) terminals_lawful c.walk_number-a.ensures c.walk_terminals.ensures
