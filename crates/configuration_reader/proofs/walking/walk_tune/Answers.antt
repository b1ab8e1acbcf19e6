-- `configuration_reader::walking::walk_tune` meets its contract: its fields one after the other, the last of which fills the content.
use Rattle.ground_refusal.specs.declared.Refusal.TheVariants.{PastPart}
use Rattle.body_formats.specs.Format.{◌▷◌, number, among}
use Rattle.body_formats.proofs.Classes.{Lawful}
use Rattle.body_formats.proofs.Bits.{among_lawful}
use Rattle.body_formats.proofs.Parts.{number_lawful, followed_lawful}
use Rattle.body_walk.proofs.Pairs.{exact_pair}
use Rattle.configuration.specs.Configuration.{terminals, said}
use Rattle.configuration.proofs.Lawful.{terminals_lawful}
use Rattle.configuration_reader.proofs.walking.walk_tune.Goals as goal

mapping_lawful : Lawful (among 0 5 (number 1))
mapping_lawful = among_lawful 0 5 (number 1) (number_lawful 1)

-- the fields from each on keep the laws of formats
from_mapping : Lawful (among 0 5 (number 1) ▷ terminals)
from_mapping = followed_lawful _ _ mapping_lawful (λ a. terminals_lawful)

from_rate : Lawful (number 4 ▷ (among 0 5 (number 1) ▷ terminals))
from_rate = followed_lawful _ _ (number_lawful 4) (λ a. from_mapping)

pub returns : goal.returns
unfolding said
returns c = exact_pair PastPart (number_lawful 4) from_rate c.walk_number-a.ensures
    (exact_pair PastPart (number_lawful 4) from_mapping c.walk_number-b.ensures
    (exact_pair PastPart mapping_lawful terminals_lawful c.walk_among-c.ensures c.walk_terminals.ensures))
