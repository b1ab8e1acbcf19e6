-- `content_fields::nth_file` meets its contract: none is passed before the first, and one before the second.
use Rattle.content_fields.proofs.Glance.{first_file, second_told}
use native.Mathlib.Omega.{arith}
use Rattle.content_fields.proofs.nth_file.Goals as goal

pub returns-then-i-eq0 : goal.returns-then-i-eq0
returns-then-i-eq0 c = (omega arith, first_file _ _ _ _ _ _ (omega arith) (omega arith))

pub returns-then-i-eq1 : goal.returns-then-i-eq1
returns-then-i-eq1 c = second_told _ _ _ _ _ _ (omega arith) _ (omega arith) c.past_file.ensures
