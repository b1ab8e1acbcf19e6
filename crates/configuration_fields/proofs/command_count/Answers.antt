-- `configuration_fields::command_count` meets its contract: the count begins the body.
use Rattle.configuration_fields.specs.Asked.{command_count}
use Rattle.configuration_fields.proofs.command_count.Goals as goal

pub returns : goal.returns
returns c = unfold command_count in c.read_number.ensures
