-- `configuration_fields::parameter_count` meets its contract: it begins the content.
use Rattle.configuration_fields.specs.Asked.{parameter_count}
use Rattle.configuration_fields.proofs.parameter_count.Goals as goal

pub returns : goal.returns
returns c = unfold parameter_count in c.number_in.ensures
