-- `body_walk::walk_bytes` meets its contract: the part read is where the field stands.
use native.Mathlib.Omega.{arith}
use Rattle.body_formats.specs.Format.{bytes_among}
use Rattle.body_walk.proofs.Pairs.{left}
use Rattle.body_walk.proofs.Leaves.{field_end, field_leaf, bytes_two, bytes_fit}
use Rattle.body_walk.proofs.walk_bytes.Goals as goal

pub past_part-requires : goal.past_part-requires
past_part-requires c = let t = c.args in
    omega (
      arith,
      field_end (bytes_among t.lo t.hi t.n) _ (bytes_two _ _ _) t.s.now t.l c.in_ok-p.p
          (bytes_fit _ _ _ _ _ _) _ c.read_bytes.ensures,
    )

pub returns-in_err-p : goal.returns-in_err-p
returns-in_err-p c = left c.from_residual.ensures c.in_err-p.was

pub returns : goal.returns
returns c = field_leaf _ _ (bytes_two _ _ _) _ _ _ (bytes_fit _ _ _ _ _ _) _ c.read_bytes.ensures _ _ _ _ c.in_ok-p.was _ _
    c.past_part.ensures
