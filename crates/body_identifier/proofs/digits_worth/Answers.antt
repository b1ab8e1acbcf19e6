-- `body_identifier::digits_worth` meets its contract: ten times the high digit and the low one.
use mathlib.Core.Path.{refl}
use native.Mathlib.Omega.{arith}
use Rattle.time_fields.specs.Field.{worth}
use Rattle.body_identifier.proofs.digits_worth.Goals as goal

pub returns : goal.returns
returns c = (unfold worth in refl, omega arith)
