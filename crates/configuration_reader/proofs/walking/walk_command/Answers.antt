-- `configuration_reader::walking::walk_command` meets its contract: the tag says how long its content is at least, and what it holds.
use Rattle.body_walk.proofs.Leaves.{number_told}
use Rattle.configuration_reader.proofs.Commands.{tag_stop, content_stop, command_walk}
use Rattle.configuration_reader.proofs.walking.walk_command.Goals as goal

pub returns-in_err-at : goal.returns-in_err-at
returns-in_err-at c = tag_stop (number_told 1 (λ i. (c.type_inv.s i).fits) c.walk_count.ensures) c.in_err-at.was c.from_residual.ensures

pub returns-in_err-inside : goal.returns-in_err-inside
returns-in_err-inside c = content_stop (number_told 1 (λ i. (c.type_inv.s i).fits) c.walk_count.ensures) c.in_ok-at.was
    c.least_content-least.ensures c.enter_least.ensures c.in_err-inside.was c.from_residual-in_err-inside.ensures

pub returns : goal.returns
returns c = command_walk (number_told 1 (λ i. (c.type_inv.s i).fits) c.walk_count.ensures) c.in_ok-at.was
    c.least_content-least.ensures c.enter_least.ensures c.in_ok-inside.was c.walk_said.ensures
