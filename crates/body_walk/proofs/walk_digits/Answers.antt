-- `body_walk::walk_digits` meets its contract: the part read is where the field stands.
use native.Mathlib.Omega.{arith}
use Rattle.body_formats.specs.Format.{digits}
use Rattle.body_formats.proofs.Strings.{digits_fit, digits_entries}
use Rattle.body_walk.proofs.Pairs.{left}
use Rattle.body_walk.proofs.Leaves.{field_end, field_leaf}
use Rattle.body_walk.proofs.walk_digits.Goals as goal

pub past_part-requires : goal.past_part-requires
past_part-requires c = let t = c.args in
    let D = digits t.h in
    omega (arith, field_end D _ (digits_entries _) t.s.now t.l c.in_ok-p.p (digits_fit _ _ _ _) _ c.read_digits.ensures)

pub returns-in_err-p : goal.returns-in_err-p
returns-in_err-p c = left c.from_residual.ensures c.in_err-p.was

pub returns : goal.returns
returns c = field_leaf _ _ (digits_entries _) _ _ _ (digits_fit _ _ _ _) _ c.read_digits.ensures _ _ _ _ c.in_ok-p.was
    _ _ c.past_part.ensures
