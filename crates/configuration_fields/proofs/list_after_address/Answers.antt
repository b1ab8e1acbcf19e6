-- `configuration_fields::list_after_address` meets its contract: an address that is answered ends where the list begins.
use mathlib.Core.Path.{sym, ◌∙◌}
use Rattle.configuration_fields.proofs.Answers.{after_address_in}
use Rattle.configuration_fields.proofs.Glance.{list_4}
use native.Mathlib.Omega.{arith}
use Rattle.configuration_fields.proofs.list_after_address.Goals as goal

pub overflow_add-result : goal.overflow_add-result
overflow_add-result c = omega (arith, after_address_in _ _ _ _ _ (sym c.in-Ok.is ∙ c.address_in.ensures))

pub returns-in-Ok : goal.returns-in-Ok
returns-in-Ok c = list_4 _ _ _ _ _ (sym c.in-Ok.is ∙ c.address_in.ensures) (omega arith)
