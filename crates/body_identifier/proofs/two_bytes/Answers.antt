-- `body_identifier::two_bytes` meets its contract, which is its text.
use mathlib.Core.Path.{refl}
use Rattle.body_identifier.proofs.two_bytes.Goals as goal

pub returns : goal.returns
returns c = refl
