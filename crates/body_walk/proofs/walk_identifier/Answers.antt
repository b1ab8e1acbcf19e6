-- `body_walk::walk_identifier` meets its contract: the part read is where the field stands.
use native.Mathlib.Omega.{arith}
use Rattle.body_formats.specs.Identifier.{identifier}
use Rattle.body_formats.proofs.Identifiers.{identifier_entries, identifier_fits}
use Rattle.body_walk.proofs.Pairs.{left}
use Rattle.body_walk.proofs.Leaves.{field_end, field_leaf}
use Rattle.body_walk.proofs.walk_identifier.Goals as goal

pub past_part-requires : goal.past_part-requires
past_part-requires c = let t = c.args in
    omega (
      arith,
      field_end identifier _ identifier_entries t.s.now t.l c.in_ok-p.p (identifier_fits _ _ _) _
          c.read_identifier.ensures,
    )

pub returns-in_err-p : goal.returns-in_err-p
returns-in_err-p c = left c.from_residual.ensures c.in_err-p.was

pub returns : goal.returns
returns c = field_leaf _ _ identifier_entries _ _ _ (identifier_fits _ _ _) _ c.read_identifier.ensures _ _ _ _ c.in_ok-p.was
    _ _ c.past_part.ensures
