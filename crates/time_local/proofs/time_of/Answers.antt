-- `time_local::time_of` meets its contract: it takes each number from the place that the definition names.
use Rattle.time_local.proofs.Forms.{places}
use Rattle.time_local.proofs.time_of.Goals as goal

pub number_at-requires : goal.number_at-requires
number_at-requires c = (places _ c.requires).day

pub number_at-requires-2 : goal.number_at-requires-2
number_at-requires-2 c = (places _ c.requires).month

pub number_at-requires-3 : goal.number_at-requires-3
number_at-requires-3 c = (places _ c.requires).century

pub number_at-requires-4 : goal.number_at-requires-4
number_at-requires-4 c = (places _ c.requires).year

pub number_at-requires-5 : goal.number_at-requires-5
number_at-requires-5 c = (places _ c.requires).hour

pub number_at-requires-6 : goal.number_at-requires-6
number_at-requires-6 c = (places _ c.requires).minute

pub number_at-requires-7 : goal.number_at-requires-7
number_at-requires-7 c = (places _ c.requires).second
