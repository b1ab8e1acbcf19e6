-- `configuration_reader::walking::walk_set_volume` meets its contract: a number of a stated set, and the terminals after it fill the content.
use Rattle.ground_refusal.specs.declared.Refusal.TheVariants.{PastPart}
use Rattle.body_formats.specs.Format.{number}
use Rattle.body_formats.proofs.Bits.{among_lawful}
use Rattle.body_formats.proofs.Parts.{number_lawful}
use Rattle.body_walk.proofs.Pairs.{exact_pair}
use Rattle.configuration.specs.Configuration.{said}
use Rattle.configuration.proofs.Lawful.{terminals_lawful}
use Rattle.configuration_reader.proofs.walking.walk_set_volume.Goals as goal

pub returns : goal.returns
unfolding said
returns c = exact_pair PastPart (among_lawful 0 100 (number 1) (number_lawful 1)) terminals_lawful c.walk_among-a.ensures c.walk_terminals.ensures
