-- `configuration_reader::walking::walk_query` meets its contract: the parameters after their count, and the terminals after them fill the content.
use Rattle.ground_refusal.specs.declared.Refusal.TheVariants.{PastPart}
use Rattle.body_formats.specs.Format.{count, number}
use Rattle.body_formats.proofs.Leaves.{count_lawful}
use Rattle.body_formats.proofs.Parts.{number_lawful}
use Rattle.body_formats.proofs.Lists.{list_lawful}
use Rattle.body_walk.proofs.Pairs.{exact_pair}
use Rattle.configuration.specs.Configuration.{said}
use Rattle.configuration.proofs.Lawful.{terminals_lawful}
use Rattle.configuration_reader.proofs.walking.walk_query.Goals as goal

pub returns : goal.returns
unfolding said
returns c = exact_pair PastPart (list_lawful (number 1) (number_lawful 1) (count 1) (count_lawful 1)) terminals_lawful
    c.walk_parameters-a.ensures c.walk_terminals.ensures
