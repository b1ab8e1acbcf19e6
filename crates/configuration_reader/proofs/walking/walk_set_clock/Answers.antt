-- `configuration_reader::walking::walk_set_clock` meets its contract: a date, a time of day, and no byte left.
use Rattle.ground_refusal.specs.declared.Refusal.TheVariants.{PastPart}
use Rattle.body_walk.proofs.Pairs.{pair, exact_walk}
use Rattle.configuration.specs.Configuration.{said}
use Rattle.configuration.proofs.Lawful.{date_lawful, clock_lawful}
use Rattle.configuration_reader.proofs.walking.walk_set_clock.Goals as goal

pub returns : goal.returns
unfolding said
returns c = exact_walk PastPart (pair date_lawful clock_lawful.formal c.walk_date-a.ensures c.walk_clock-b.ensures) c.leave.ensures
